use Rattle.std.proofs.Common.{ℕ, arith}
use Rattle.std.proofs.lemmas.List.{length-take}
use Rattle.isle_outside.proofs.ReadLaws.{taken_in_all}
use Rattle.isle_outside.proofs.reading.rest.Goals as goal

pub returns-then-is_end-clause-bounded : goal.returns-then-is_end-clause-bounded
returns-then-is_end-clause-bounded g c = taken_in_all _ _ _ _ _ _ _ c.read.invariant.front c.in-Ok.ensures.gives (omega (arith, c.in-Ok.ensures.within, length-take {A = ℕ}))

pub returns-then-n-len-clause-bounded : goal.returns-then-n-len-clause-bounded
returns-then-n-len-clause-bounded g c = taken_in_all _ _ _ _ _ _ _ c.read.invariant.front c.in-Ok.ensures.gives (omega (arith, c.in-Ok.ensures.within, length-take {A = ℕ}))

pub returns-in_err-extend_from_slice-clause-bounded : goal.returns-in_err-extend_from_slice-clause-bounded
returns-in_err-extend_from_slice-clause-bounded g c = taken_in_all _ _ _ _ _ _ _ c.read.invariant.front c.in-Ok.ensures.gives (omega (arith, c.in-Ok.ensures.within, length-take {A = ℕ}))
