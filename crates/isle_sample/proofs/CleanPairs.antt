-- What holds of each two items of a list, the first before the second.
use Rattle.std.proofs.Common.{◌≡◌, ℕ, zero, suc, ◌<◌, List, [], ◌∷◌, Bool, true, false, cond, filter, arith}
use Rattle.std.proofs.Common.{sym, ◌∙◌, refl, eqb→eq}
use Rattle.std.specs.Prelude.{◌==◌, IsSomeAnd, slice_get}
use Rattle.std.specs.Bool.{passes}
use Rattle.std.specs.List.{AllByRecursion}

-- of each item and each later one
abbrev pub ArePairs : {X : Type 0} → (X → X → Type 0) → List X → Type 0
ArePairs R [] = Unit {0}
ArePairs R (x ∷ xs) = AllByRecursion (R x) xs × ArePairs R xs

-- what holds of all, and something more of one at a place
pub some_at : {X : Type 0} (P Q : X → Type 0) (xs : List X) (i : ℕ) → AllByRecursion P xs → IsSomeAnd (slice_get xs i) Q
    → (x : X) × P x × Q x
some_at P Q [] zero h q = absurd q
some_at P Q [] (suc i) h q = absurd q
some_at P Q (x ∷ xs) zero h q = (x, h.0, q)
some_at P Q (x ∷ xs) (suc i) h q = some_at P Q xs i h.1 q

-- what holds of no two items is nowhere
pub pairs_none : {X : Type 0} (R : X → X → Type 0) (xs : List X) (i j : ℕ) → ArePairs (λ x y. R x y → ⊥) xs → i < j
    → IsSomeAnd (slice_get xs i) (λ (x : X). IsSomeAnd (slice_get xs j) (λ (y : X). R x y)) → ⊥
pairs_none R [] i j h lt r = absurd r
pairs_none R (x ∷ xs) zero zero h lt r = omega (arith, lt)
pairs_none R (x ∷ xs) zero (suc j) h lt r = let found = some_at (λ y. R x y → ⊥) (R x) xs j h.0 r in found.1 found.2
pairs_none R (x ∷ xs) (suc i) zero h lt r = omega (arith, lt)
pairs_none R (x ∷ xs) (suc i) (suc j) h lt r = pairs_none R xs i j h.1 (omega (arith, lt)) r

-- ---- of those with one number

module _ {X : Type 0} (number : X → ℕ) (n : ℕ) where
  -- what holds of all with the number holds of all that are kept for it
  pub all_numbered : (P : X → Type 0) (xs : List X) → AllByRecursion (λ x. number x ≡ n → P x) xs
      → AllByRecursion P (filter (λ x. number x == n) xs)
  all_numbered P [] h = tt
  all_numbered P (x ∷ xs) h = one (number x == n) refl (all_numbered P xs h.1)
    where
      one : (b : Bool) → (number x == n) ≡ b → AllByRecursion P (filter (λ y. number y == n) xs)
          → AllByRecursion P (cond b (x ∷ filter (λ y. number y == n) xs) (filter (λ y. number y == n) xs))
      one true e later = (h.0 (eqb→eq (number x) n (passes (number x == n) e)), later)
      one false e later = later

  -- so of each two with one number
  pub pairs_numbered : (R : X → X → Type 0) (xs : List X) → ArePairs (λ x y. number x ≡ number y → R x y) xs
      → ArePairs R (filter (λ x. number x == n) xs)
  pairs_numbered R [] h = tt
  pairs_numbered R (x ∷ xs) h = one (number x == n) refl (pairs_numbered R xs h.1)
    where
      one : (b : Bool) → (number x == n) ≡ b → ArePairs R (filter (λ y. number y == n) xs)
          → ArePairs R (cond b (x ∷ filter (λ y. number y == n) xs) (filter (λ y. number y == n) xs))
      one true e later = (all_numbered (R x) xs (to xs h.0), later)
        where
          to : (ys : List X) → AllByRecursion (λ y. number x ≡ number y → R x y) ys
              → AllByRecursion (λ y. number y ≡ n → R x y) ys
          to [] k = tt
          to (y ∷ ys) k = (λ is. k.0 (eqb→eq (number x) n (passes (number x == n) e) ∙ sym is), to ys k.1)
      one false e later = later
