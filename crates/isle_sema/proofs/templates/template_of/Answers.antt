use Rattle.std.proofs.Common.{◌≡◌, ap, sym, ◌∙◌}
use Rattle.isle_ast.specs.Views.{pattern}
use Rattle.isle_declarations.specs.Collected.{extractor as seen, extracting}
use Rattle.isle_declarations.specs.Signatures.{Template, ByTemplate, ExtractorDef}
use Rattle.isle_terms.specs.Whole.{whole, termed}
use Rattle.isle_sema.specs.Known.{MayBeCalled}
use Rattle.isle_sema.specs.TemplateRows.{misses_parameter}
use Rattle.isle_sema.proofs.ExtractorFaults.{row_judged, template_found}
use Rattle.isle_sema.proofs.templates.template_of.Goals as goal

pub returns-in-Some : goal.returns-in-Some
returns-in-Some c =
    let w = whole c.args.known.now in
    let x : ExtractorDef = seen c.args.given.now in
    let t : Template = record { params = c.in-Template.params.now; pattern = pattern c.in-Template.template.now } in
    let by : x.by ≡ ByTemplate t = ap extracting c.in-Template.is in
    let callee : MayBeCalled w (termed w x.term) c.at-callee.result = c.at-callee.ensures x.term c.requires.number in
    let found = template_found w x t _ _ _ _ _ _ _ by (c.result_type-expected.ensures w (termed w x.term) callee) (c.in_ok-vars-in-Template.ensures w (termed w x.term) callee) c.new-judged.ensures c.in_ok-tree-in-Template.ensures in
    let missed = c.in_ok-misses-in-Template.ensures ∙ ap misses_parameter (sym by) in
    sym (row_judged w x t _ _ _ _ by (c.reaches_itself.ensures w x callee c.requires.closed) missed found.1) ∙ sym c.template_row.ensures ∙ c.in-Some.is

pub returns : goal.returns
returns c =
    let w = whole c.args.known.now in
    let x : ExtractorDef = seen c.args.given.now in
    let t : Template = record { params = c.in-Template.params.now; pattern = pattern c.in-Template.template.now } in
    let by : x.by ≡ ByTemplate t = ap extracting c.in-Template.is in
    let callee : MayBeCalled w (termed w x.term) c.at-callee.result = c.at-callee.ensures x.term c.requires.number in
    let found = template_found w x t _ _ _ _ _ _ _ by (c.result_type-expected.ensures w (termed w x.term) callee) (c.in_ok-vars-in-Template.ensures w (termed w x.term) callee) c.new-judged.ensures c.in_ok-tree-in-Template.ensures in
    let missed = c.in_ok-misses-in-Template.ensures ∙ ap misses_parameter (sym by) in
    record {
      sound = sym (row_judged w x t _ _ _ _ by (c.reaches_itself.ensures w x callee c.requires.closed) missed found.1) ∙ sym c.template_row.ensures ∙ c.in-None.is;
      tree_is = found.0;
    }
