use Rattle.std.proofs.Common.{◌≡◌, rules, ◌≤◌, length, ◌++◌, Option, Some, map, ap, sym, ◌∙◌, subst}
use Rattle.std.specs.Prelude.{OnOk, slice_get}
use Rattle.isle_core.specs.declared.TypeId.{TypeId}
use Rattle.isle_ast.specs.Tree as tree
use Rattle.isle_ast.specs.Views.{pattern, patterns_of}
use Rattle.isle_ast.proofs.Sees.{pattern-term, pattern-and}
use Rattle.isle_declarations.proofs.LookUps.{got}
use Rattle.isle_terms.specs.Converters.{conversion}
use Rattle.isle_terms.specs.Whole.{whole, termed, arg_types, ret_type}
use Rattle.isle_sema.specs.Known.{MayBeCalled}
use Rattle.isle_sema.specs.TemplateUses.{uses_in, all_uses_in}
use Rattle.isle_sema.proofs.UseSteps.{uses_of_each, one_more, all_noted, uses_more, term_noted}
use Rattle.isle_sema.proofs.template_uses.+noting.Goals as goal

pub note-loop-part-preserved : goal.note-loop-part-preserved
note-loop-part-preserved t c = one_more (whole c.args.known.now) c.args.expected c.as_slice-part-items.result.now c.loop-part.part-index c.loop-part.found.items _ _ c.part-item.result _ c.loop-part-test.true c.part-item.is c.in_ok-note-in-And.ensures c.loop-part.invariant

pub note-returns-in_ok-note_called-in-Term-2 : goal.note-returns-in_ok-note_called-in-Term-2
note-returns-in_ok-note_called-in-Term-2 t c =
    let w = whole c.args.known.now in
    let name = c.in-Term.name in
    let ps = patterns_of (map pattern c.in-Term.parts) in
    let o = termed w name in
    let is : tree.Term name ps ≡ pattern c.args.p.now = sym (ap pattern c.in-Term.is ∙ pattern-term name c.in-Term.parts) in
    let types : map Some c.argument_types.result.now ≡ arg_types w o = sym (c.argument_types.ensures w o c.called-callee.ensures) in
    let of : c.result_type.result ≡ ret_type w o = c.result_type.ensures w o c.called-callee.ensures in
    let by = subst (λ (ty : Option TypeId). MayBeCalled w (conversion w ty c.args.expected) c.conversion-converter.result) of c.conversion-converter.ensures in
    let parts : c.as_slice.result.now ≡ c.in-Term.parts = search rules in
    let rest : all_uses_in w (map Some c.argument_types.result.now) (patterns_of (map pattern c.as_slice.result.now)) ≡ all_uses_in w (arg_types w o) ps =
    ap (λ os. all_uses_in w os (patterns_of (map pattern c.as_slice.result.now))) types ∙ ap (λ xs. all_uses_in w (arg_types w o) (patterns_of (map pattern xs))) parts in
    let all = term_noted w c.args.expected name ps c.args.found.now.items c.note_called.new.found.items c.note_called-in-Term.new.found.items _ (c.in_ok-note_called-in-Term.ensures w (conversion w (ret_type w o) c.args.expected) by) (c.in_ok-note_called-in-Term-2.ensures w o c.called-callee.ensures) rest in
    subst (λ ns. OnOk c.note_each.result (c.note_each.new.found.items ≡ ns)) (all ∙ ap (λ q. c.args.found.now.items ++ uses_in w c.args.expected q) is) c.note_each.ensures

pub note-returns-after-loop-part : goal.note-returns-after-loop-part
note-returns-after-loop-part t c =
    let w = whole c.args.known.now in
    let is : tree.And (patterns_of (map pattern c.in-And.parts)) ≡ pattern c.args.p.now = sym (ap pattern c.in-And.is ∙ pattern-and c.in-And.parts) in
    let parts : c.as_slice-part-items.result.now ≡ c.in-And.parts = search rules in
    let end : length c.as_slice-part-items.result.now ≤ c.loop-part.part-index = search rules in
    all_noted w c.args.expected c.as_slice-part-items.result.now c.loop-part.part-index c.loop-part.found.items _ end c.loop-part.invariant
    ∙ ap (λ xs. c.args.found.now.items ++ uses_of_each w c.args.expected xs) parts ∙ ap (λ q. c.args.found.now.items ++ uses_in w c.args.expected q) is

pub note_each-loop-index-preserved : goal.note_each-loop-index-preserved
note_each-loop-index-preserved t c =
    let h = c.get.ensures.lookup in
    let at : c.copied.result ≡ slice_get c.args.types.now c.loop-index.index = c.copied.ensures ∙ got c.args.types.now c.loop-index.index c.get.result h.1 h.3 in
    uses_more (whole c.args.known.now) c.args.types.now c.args.parts.now c.loop-index.index c.loop-index.found.items _ _ c.index-parts-index.result _ c.copied.result c.loop-index-test.true c.index-parts-index.is at c.in_ok-note.ensures c.loop-index.invariant
