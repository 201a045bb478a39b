use Rattle.std.proofs.Common.{◌≡◌, ℕ, List, drop}
use Rattle.isle_lawful_names.specs.NameSet.{HasNames}
use Rattle.isle_meta.specs.Immediates.{are_among}
use Rattle.isle_meta.proofs.immediates.are_in.Given as goal

abbrev pub invariant-loop-value : goal.invariant-loop-value
invariant-loop-value l = (names : List (List ℕ)) → HasNames names l.set → are_among (drop l.value-index l.values) names ≡ are_among l.values names
