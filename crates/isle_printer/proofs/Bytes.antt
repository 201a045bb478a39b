-- Texts that compare as the same are the same.
use Rattle.std.proofs.Common.{◌≡◌, ℕ, List, [], ◌∷◌, true, refl, ap}
use Rattle.std.specs.Prelude.{eqb, ◌&&◌}
use Rattle.std.specs.Str.{bytes_eq}
use Rattle.std.proofs.lemmas.Bool.{eq-eqb, eqb-true, and_from, and_parts}
use Rattle.isle_printer.specs.Bytes.{same_bytes}

pub same_bytes_refl : (w : List ℕ) → same_bytes w w ≡ true
same_bytes_refl [] = refl
same_bytes_refl (b ∷ bs) = and_from _ _ (eq-eqb b b refl) (same_bytes_refl bs)

pub same_bytes_sound : (v w : List ℕ) → same_bytes v w ≡ true → v ≡ w
same_bytes_sound [] [] h = refl
same_bytes_sound [] (b ∷ bs) h = cc
same_bytes_sound (a ∷ more) [] h = cc
same_bytes_sound (a ∷ more) (b ∷ bs) h =
    let parts = and_parts _ _ h in
    let heads : a ≡ b = eqb-true a b parts.0 in
    let tails : more ≡ bs = same_bytes_sound more bs parts.1 in
    cc

-- both tests of two texts say the same
pub same_is : (a b : List ℕ) → bytes_eq a b ≡ same_bytes a b
same_is [] [] = refl
same_is [] (y ∷ ys) = refl
same_is (x ∷ xs) [] = refl
same_is (x ∷ xs) (y ∷ ys) = ap (λ c. eqb x y && c) (same_is xs ys)
