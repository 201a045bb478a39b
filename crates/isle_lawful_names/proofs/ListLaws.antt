-- What holds of all items of a list, at one of them.
use Rattle.std.proofs.Common.{◌≡◌, ℕ, zero, suc, List, [], ◌∷◌, Bool, true, false, Some, refl, sym, ap, ◌∙◌, subst}
use Rattle.std.specs.Prelude.{find, slice_get, cond}
use Rattle.std.specs.List.{AllByRecursion}
use Rattle.std.proofs.lemmas.Option.{same_Some}

-- at the item of this number
pub all_at : {X : Type 0} (P : X → Type 0) (xs : List X) (n : ℕ) (x : X) → AllByRecursion P xs → slice_get xs n ≡ Some x → P x
all_at P [] zero x h at = absurd cc
all_at P [] (suc n) x h at = absurd cc
all_at P (y ∷ xs) zero x h at = subst P (same_Some y x at) h.0
all_at P (y ∷ xs) (suc n) x h at = all_at P xs n x h.1 at

-- at the first that passes a test
pub all_found : {X : Type 0} (P : X → Type 0) (test : X → Bool) (xs : List X) (x : X) → AllByRecursion P xs → find test xs ≡ Some x → P x × (test x ≡ true)
all_found P test [] x h found = absurd cc
all_found P test (y ∷ xs) x h found = one (test y) refl found (λ e. all_found P test xs x h.1 e)
  where
    one : (b : Bool) → test y ≡ b → cond b (Some y) (find test xs) ≡ Some x → (find test xs ≡ Some x → P x × (test x ≡ true)) → P x × (test x ≡ true)
    one true is e later = let same = same_Some y x e in (subst P same h.0, ap test (sym same) ∙ is)
    one false is e later = later e

-- so of each
pub all_to : {X : Type 0} (P Q : X → Type 0) (xs : List X) → ((x : X) → P x → Q x) → AllByRecursion P xs → AllByRecursion Q xs
all_to P Q [] to h = tt
all_to P Q (x ∷ xs) to h = (to x h.0, all_to P Q xs to h.1)
