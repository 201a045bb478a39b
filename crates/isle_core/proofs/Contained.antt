-- What a list contains, from its head.
use Rattle.std.proofs.Common.{◌≡◌, ◌⊎◌, inl, inr, ℕ, ◌<◌, zero, suc, List, [], ◌∷◌, length, get_or, refl, arith}
use Rattle.std.specs.Prelude.{Contains}

pub head_contained : {A : Type 0} (x : A) (xs : List A) → Contains (x ∷ xs) x
head_contained x xs = (0, omega arith, refl)

pub tail_contained : {A : Type 0} (x : A) (xs : List A) (y : A) → Contains xs y → Contains (x ∷ xs) y
tail_contained x xs y c = (suc c.0, omega arith, c.2)

pub contained_cases : {A : Type 0} (x : A) (xs : List A) (y : A) → Contains (x ∷ xs) y → (x ≡ y) ⊎ Contains xs y
contained_cases x xs y c = pick c.0 c.1 c.2
  where
    pick : (k : ℕ) → k < length (x ∷ xs) → get_or (x ∷ xs) k y ≡ y → (x ≡ y) ⊎ Contains xs y
    pick zero lt e = inl e
    pick (suc k) lt e = inr (k, omega arith, e)

pub none_contained : {A : Type 0} (y : A) → Contains [] y → ⊥
none_contained y c = omega arith
