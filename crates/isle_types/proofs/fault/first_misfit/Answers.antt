use Rattle.std.proofs.Common.{rules, ◌≡◌, ◌+◌, take, Some, None, ap, sym, ◌∙◌}
use Rattle.std.specs.Prelude.{slice_get, option_map}
use Rattle.isle_core.specs.declared.position.Pos.{Pos}
use Rattle.isle_ast.specs.Positions.{place_of}
use Rattle.isle_ast.specs.Views.{def, defs}
use Rattle.isle_declarations.proofs.LookUps.{there}
use Rattle.isle_types.specs.declared.row.Row.{Row}
use Rattle.isle_types.specs.Fault.{or_later}
use Rattle.isle_types.specs.Gathered.{misfit_row}
use Rattle.isle_types.proofs.FaultLaws.{fault_from, fault_step, before_step, terms_at}
use Rattle.isle_types.proofs.fault.first_misfit.Goals as goal

pub misfit_of-requires : goal.misfit_of-requires
misfit_of-requires c =
    let h = c.get.ensures.lookup in
    let at = there c.args.made.now c.loop-index.index c.get.result c.in-Some.terms h.1 h.3 (search rules) in
    let is : c.as_slice.result.now ≡ c.in-Some.terms.now = search rules in
    is ∙ terms_at c.args.defs.now c.loop-index.index c.index-defs-index.result _ c.in-Some.terms.now c.loop-index-test.true c.index-defs-index.is (ap (λ made. slice_get made c.loop-index.index) (sym c.requires) ∙ at)

pub returns-in-Some-2 : goal.returns-in-Some-2
returns-in-Some-2 c =
    let judged = c.in_ok-misfit.ensures (defs c.args.defs.now) (defs (take c.loop-index.index c.args.defs.now)) c.in_ok-known.ensures c.loop-index.invariant.1 in
    let found : c.in_ok-misfit.field-0 ≡ Some c.in-Some-2.misfit = search rules in
    let place : c.place_of.result ≡ place_of (def c.index-defs-index.result) = search rules in
    (c.loop-index.invariant.0 ∙ fault_step c.args.defs.now c.loop-index.index c.index-defs-index.result _ c.loop-index-test.true c.index-defs-index.is
    ∙ ap (λ o. or_later (option_map (λ (r : Row). (r, place_of (def c.index-defs-index.result))) o) (fault_from (c.loop-index.index + 1) c.args.defs.now)) (sym judged.row ∙ ap (option_map misfit_row) found)
    ∙ ap (λ (p : Pos). Some (misfit_row c.in-Some-2.misfit, p)) (sym place))

pub loop-index-preserved : goal.loop-index-preserved
loop-index-preserved c =
    let judged = c.in_ok-misfit.ensures (defs c.args.defs.now) (defs (take c.loop-index.index c.args.defs.now)) c.in_ok-known.ensures c.loop-index.invariant.1 in
    let found : c.in_ok-misfit.field-0 ≡ None = search rules in (
      c.loop-index.invariant.0 ∙ fault_step c.args.defs.now c.loop-index.index c.index-defs-index.result _ c.loop-index-test.true c.index-defs-index.is
          ∙ ap (λ o. or_later (option_map (λ (r : Row). (r, place_of (def c.index-defs-index.result))) o) (fault_from (c.loop-index.index + 1) c.args.defs.now)) (sym judged.row ∙ ap (option_map misfit_row) found),
      before_step c.args.defs.now c.loop-index.index c.index-defs-index.result _ c.misfit_of.new.before c.loop-index-test.true c.index-defs-index.is (judged.after found),
    )
