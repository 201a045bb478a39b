use Rattle.std.proofs.Common.{rules, ◌≡◌, ◌+◌, ◌<◌, List, length, take, Some, None, ap, sym, ◌∙◌, subst}
use Rattle.std.specs.Prelude.{option_map}
use Rattle.isle_core.specs.declared.position.Pos.{Pos}
use Rattle.isle_ast.specs.declared.tree.Def.{Def}
use Rattle.isle_ast.specs.Positions.{place_of}
use Rattle.isle_ast.specs.Tree.{Def as PureDef}
use Rattle.isle_ast.specs.Views.{def, defs as seen}
use Rattle.isle_types.specs.Fault.{or_later}
use Rattle.isle_types.specs.declared.row.Row.{Row}
use Rattle.isle_terms.specs.ConverterViews.{AreMet}
use Rattle.isle_terms.specs.Misfits.{AreCounted, misfit_row}
use Rattle.isle_terms.proofs.ConverterLaws.{at_same}
use Rattle.isle_terms.proofs.FaultSteps.{fault_from, fault_step, seen_more, counted_more, placed_from}
use Rattle.isle_terms.proofs.term_fault.first_misfit.Goals as goal

pub returns-in-Some : goal.returns-in-Some
returns-in-Some c =
    let ds = c.args.names.now.declarations.now in
    let i = c.loop-given.given-index in
    let x = c.given-item.result in
    let same : c.defs-given-items.result.now ≡ ds = c.defs-given-items.ensures in
    let lt = subst (λ (xs : List Def). i < length xs) same c.loop-given-test.true in
    let at = at_same _ ds i x _ same c.given-item.is in
    let judged = c.in_ok-misfit.ensures (seen (take i ds)) (placed_from ds i c.loop-given.counts c.loop-given.invariant.1) c.loop-given.invariant.2 in
    let found : c.in_ok-misfit.field-0 ≡ Some c.in-Some.misfit = search rules in
    let place : c.place_of.result ≡ place_of (def x) = search rules in
    c.loop-given.invariant.0 ∙ fault_step ds i x _ lt at
    ∙ ap (λ o. or_later (option_map (λ (r : Row). (r, place_of (def x))) o) (fault_from (i + 1) ds)) (sym judged.row ∙ ap (option_map misfit_row) found)
    ∙ ap (λ (p : Pos). Some (misfit_row c.in-Some.misfit, p)) (sym place)

pub loop-given-preserved : goal.loop-given-preserved
loop-given-preserved c =
    let ds = c.args.names.now.declarations.now in
    let i = c.loop-given.given-index in
    let x = c.given-item.result in
    let same : c.defs-given-items.result.now ≡ ds = c.defs-given-items.ensures in
    let lt = subst (λ (xs : List Def). i < length xs) same c.loop-given-test.true in
    let at = at_same _ ds i x _ same c.given-item.is in
    let judged = c.in_ok-misfit.ensures (seen (take i ds)) (placed_from ds i c.loop-given.counts c.loop-given.invariant.1) c.loop-given.invariant.2 in
    let found : c.in_ok-misfit.field-0 ≡ None = search rules in
    let more = sym (seen_more ds i x _ lt at) in (
      c.loop-given.invariant.0 ∙ fault_step ds i x _ lt at ∙ ap (λ o. or_later (option_map (λ (r : Row). (r, place_of (def x))) o) (fault_from (i + 1) ds)) (sym judged.row ∙ ap (option_map misfit_row) found),
      subst (λ (bs : List PureDef). AreCounted bs c.after-counts.result) more (subst (AreCounted _) (sym c.after-counts.ensures) (counted_more (seen (take i ds)) (def x) c.loop-given.counts c.loop-given.invariant.1)),
      subst (λ (bs : List PureDef). AreMet (seen ds) bs c.misfit_of.new.found) more (judged.after found),
    )
