use Rattle.std.proofs.Common.{◌≡◌, length, drop}
use Rattle.isle_core.specs.Meaning.{same_values}
use Rattle.isle_core.specs.ValueViews.{values}
use Rattle.isle_running.proofs.calls.same_values.Given as goal

abbrev pub invariant-loop-index : goal.invariant-loop-index
invariant-loop-index l =
    (same_values (values (drop l.index l.ones)) (values (drop l.index l.others)) ≡ same_values (values l.ones) (values l.others)) × (length l.ones ≡ length l.others)
