-- What stands in a list that one item was added to.
use Rattle.std.proofs.Common.{◌≡◌, ◌⊎◌, inl, inr, ⊎_elim, ℕ, zero, suc, List, [], ◌∷◌, ◌++◌, length, Some, refl, ap}
use Rattle.std.specs.Prelude.{slice_get}

pub get_push : {A : Type 0} (xs : List A) (y : A) (b : ℕ) (x : A) → slice_get xs b ≡ Some x → slice_get (xs ++ y ∷ []) b ≡ Some x
get_push [] y b x e = cc
get_push (z ∷ xs) y zero x e = e
get_push (z ∷ xs) y (suc b) x e = get_push xs y b x e

pub get_last : {A : Type 0} (xs : List A) (y : A) → slice_get (xs ++ y ∷ []) (length xs) ≡ Some y
get_last [] y = refl
get_last (z ∷ xs) y = get_last xs y

pub get_either : {A : Type 0} (xs : List A) (y : A) (b : ℕ) (x : A) → slice_get (xs ++ y ∷ []) b ≡ Some x → (slice_get xs b ≡ Some x) ⊎ ((b ≡ length xs) × (y ≡ x))
get_either [] y zero x e = inr (refl, cc)
get_either [] y (suc b) x e = cc
get_either (z ∷ xs) y zero x e = inl e
get_either (z ∷ xs) y (suc b) x e = ⊎_elim (λ h. inl h) (λ h. inr (ap suc h.0, h.1)) (get_either xs y b x e)
