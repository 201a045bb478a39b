use Rattle.std.proofs.Common.{◌≡◌, rules, ◌++◌, Option, Some, None, map, ap, sym, ◌∙◌}
use Rattle.std.specs.Prelude.{slice_get}
use Rattle.std.specs.Option.{option_copied}
use Rattle.isle_core.specs.declared.TypeId.{TypeId}
use Rattle.isle_ast.specs.Views.{pattern, defs as seen}
use Rattle.isle_declarations.specs.Collected.{extracting, extractor}
use Rattle.isle_declarations.specs.Heads.{extractor_terms}
use Rattle.isle_declarations.specs.Signatures.{Extracting, extractors}
use Rattle.isle_declarations.specs.Symbols.{index_of, symbols}
use Rattle.isle_declarations.specs.TermViews.{term_def}
use Rattle.isle_declarations.proofs.LookUps.{got, there}
use Rattle.isle_terms.specs.Whole.{whole, termed}
use Rattle.isle_sema.specs.Known.{MayBeCalled}
use Rattle.isle_sema.specs.TemplateUses.{uses_in, used_through, used_of}
use Rattle.isle_sema.proofs.NamedExtractors.{extractor_at, extractor_absent}
use Rattle.isle_sema.proofs.template_uses.used_of.Goals as goal

pub returns-in_default-extracting : goal.returns-in_default-extracting
returns-in_default-extracting c =
    let defs = seen c.args.known.now in
    let name = c.args.term.now.term.now in
    let number : index_of (symbols defs) name ≡ Some c.in-Some.number = search rules in
    let none : index_of (extractor_terms (extractors defs)) name ≡ None = search rules in
    c.new-found.ensures.items ∙ ap (used_of (whole c.args.known.now) (term_def c.args.term.now)) (sym (extractor_absent (extractors defs) name none))

pub returns-in_default-get : goal.returns-in_default-get
returns-in_default-get c =
    let defs = seen c.args.known.now in
    let name = c.args.term.now.term.now in
    let h = c.get.ensures.lookup in
    let number : index_of (symbols defs) name ≡ Some c.in-Some.number = search rules in
    let place : index_of (extractor_terms (extractors defs)) name ≡ Some c.in-Some-extracting.place = search rules in
    let all : map extractor c.extractors.result.now ≡ extractors defs = search rules in
    let nothing : c.get.result ≡ None = search rules in
    let past : slice_get c.extractors.result.now c.in-Some-extracting.place ≡ None = sym (got c.extractors.result.now c.in-Some-extracting.place c.get.result h.1 h.3) ∙ ap option_copied nothing in
    c.new-found.ensures.items ∙ ap (used_of (whole c.args.known.now) (term_def c.args.term.now)) (sym (extractor_at defs c.extractors.result.now name c.in-Some-extracting.place None all place past))

pub returns-in-Function : goal.returns-in-Function
returns-in-Function c =
    let defs = seen c.args.known.now in
    let w = whole c.args.known.now in
    let name = c.args.term.now.term.now in
    let h = c.get.ensures.lookup in
    let number : index_of (symbols defs) name ≡ Some c.in-Some.number = search rules in
    let place : index_of (extractor_terms (extractors defs)) name ≡ Some c.in-Some-extracting.place = search rules in
    let all : map extractor c.extractors.result.now ≡ extractors defs = search rules in
    let here = there c.extractors.result.now c.in-Some-extracting.place c.get.result c.in-Some-get.extractor h.1 h.3 (search rules) in
    let named = extractor_at defs c.extractors.result.now name c.in-Some-extracting.place (Some c.in-Some-get.extractor.now) all place here in
    c.new-found.ensures.items ∙ sym (ap (used_of w (term_def c.args.term.now)) named ∙ ap (λ (how : Extracting). used_through w name how) (ap extracting c.in-Function.is))

pub returns-in_ok-note-in-Template : goal.returns-in_ok-note-in-Template
returns-in_ok-note-in-Template c =
    let defs = seen c.args.known.now in
    let w = whole c.args.known.now in
    let name = c.args.term.now.term.now in
    let p = pattern c.in-Template.template.now in
    let h = c.get.ensures.lookup in
    let number : index_of (symbols defs) name ≡ Some c.in-Some.number = search rules in
    let place : index_of (extractor_terms (extractors defs)) name ≡ Some c.in-Some-extracting.place = search rules in
    let all : map extractor c.extractors.result.now ≡ extractors defs = search rules in
    let here = there c.extractors.result.now c.in-Some-extracting.place c.get.result c.in-Some-get.extractor h.1 h.3 (search rules) in
    let named = extractor_at defs c.extractors.result.now name c.in-Some-extracting.place (Some c.in-Some-get.extractor.now) all place here in
    let callee : MayBeCalled w (termed w name) c.at-callee.result = c.at-callee.ensures name number in
    c.in_ok-note-in-Template.ensures ∙ ap (λ ns. ns ++ uses_in w c.result_type.result p) c.new-found.ensures.items ∙ ap (λ (ty : Option TypeId). uses_in w ty p) (c.result_type.ensures w (termed w name) callee)
    ∙ sym (ap (used_of w (term_def c.args.term.now)) named ∙ ap (λ (how : Extracting). used_through w name how) (ap extracting c.in-Template.is))
