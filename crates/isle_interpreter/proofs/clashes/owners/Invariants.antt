use Rattle.std.proofs.Common.{◌≡◌, ℤ, List, map, drop, fold}
use Rattle.isle_interpreter.specs.Clashes.{held, noted_owner, owner_at, at_key}
use Rattle.isle_interpreter.proofs.clashes.owners.Given as goal

abbrev pub invariant-loop-holder : goal.invariant-loop-holder
invariant-loop-holder l = (key : List ℤ) → fold (noted_owner key) (at_key l.found key) (map held (drop l.holder-index l.holders)) ≡ owner_at key (map held l.holders)
