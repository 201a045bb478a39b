use Rattle.std.proofs.Common.{◌≡◌, List, map, drop}
use Rattle.std.specs.Prelude.{find}
use Rattle.isle_core.specs.Value.{Value, Answer}
use Rattle.isle_core.specs.Meaning.{same_values}
use Rattle.isle_core.specs.ValueViews.{values, case}
use Rattle.isle_running.proofs.calls.case_holding.Given as goal

abbrev pub invariant-loop-case : goal.invariant-loop-case
invariant-loop-case l =
    find (λ (c : List Value × Answer). same_values c.0 (values l.args)) (map case (drop l.case-index l.case-items)) ≡ find (λ (c : List Value × Answer). same_values c.0 (values l.args)) (map case l.case-items)
