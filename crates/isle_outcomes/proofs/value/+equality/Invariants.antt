use Rattle.std.proofs.Common.{◌≡◌, length, drop}
use Rattle.isle_core.specs.SameInRun.{same_fields_in_run}
use Rattle.isle_outcomes.specs.Fields.{fields}
use Rattle.isle_outcomes.proofs.value.+equality.Given as goal

abbrev pub invariant-same_fields-loop-index : goal.invariant-same_fields-loop-index
invariant-same_fields-loop-index l =
    (same_fields_in_run (fields (drop l.index l.ones)) (fields (drop l.index l.others)) ≡ same_fields_in_run (fields l.ones) (fields l.others)) × (length l.ones ≡ length l.others)
