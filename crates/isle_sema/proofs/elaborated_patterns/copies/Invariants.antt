use Rattle.std.proofs.Common.{◌≡◌}
use Rattle.std.specs.Prelude.{replicate}
use Rattle.isle_sema.proofs.elaborated_patterns.copies.Given as goal

abbrev pub invariant-loop : goal.invariant-loop
invariant-loop l = l.types.items ≡ replicate l.counter l.ty
