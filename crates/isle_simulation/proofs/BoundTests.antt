-- A local that is among those that are bound.
use Rattle.std.proofs.Common.{◌≡◌, ℕ, zero, suc, List, [], ◌∷◌, true, eqb, refl, arith}
use Rattle.std.specs.Prelude.{Contains}
use Rattle.std.specs.List.{list_any}
use Rattle.std.proofs.lemmas.Bool.{eq-eqb}

pub found : (ls : List ℕ) (n : ℕ) → Contains ls n → list_any (λ m. eqb m n) ls ≡ true
found [] n h = absurd (let lt = h.1 in omega (arith, lt))
found (l ∷ ls) n (zero, lt, e) = rw (eq-eqb l n e) refl
found (l ∷ ls) n (suc k, lt, e) = let h = found ls n (k, omega (arith, lt), e) in grind (arith, h)
