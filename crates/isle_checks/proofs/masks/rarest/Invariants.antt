use Rattle.std.specs.Prelude.{ℕ, IfSome}
use Rattle.isle_checks.specs.declared.lists.Key.{Key}
use Rattle.isle_checks.specs.Masks.{Bears}
use Rattle.isle_checks.proofs.masks.rarest.Given as goal

abbrev pub invariant-loop-x : goal.invariant-loop-x
invariant-loop-x l = IfSome l.best (λ (counted : Key × ℕ). Bears l.constraints counted.0)
