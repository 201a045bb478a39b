-- What made values are, as the code finds it.
use Rattle.std.proofs.Common.{◌≡◌, ℕ, List, [], ◌∷◌, ◌++◌, length, map, true, false, refl, ap, sym, ◌∙◌, arith, Some, None}
use Rattle.std.specs.Prelude.{if◌then◌else◌, bytes_eq, codes, ◌==◌}
use Rattle.std.proofs.lemmas.Slice.Eq.{bytes_eq-Decides}
use Rattle.isle_values.specs.Views.{in_order}
use Rattle.isle_values.specs.Written.{Written, Made}
use Rattle.isle_answers.specs.Form.{One, Tuple}
use Rattle.isle_answers.specs.Words.{is_reserved}
use Rattle.isle_answers.specs.Reading.{listed, result_is, answer_is, only_of}

pub listed_in_order : (vs : List Written) → listed (in_order vs) ≡ vs
listed_in_order [] = refl
listed_in_order (v ∷ vs) = ap (λ z. v ∷ z) (listed_in_order vs)

pub made_tuple : (w : List ℕ) (vs : List Written) → bytes_eq w (codes "tuple") ≡ true → Some (Tuple vs) ≡ result_is (Made w (in_order vs))
made_tuple w vs e =
    ap (λ z. Some (Tuple z)) (sym (listed_in_order vs))
    ∙ sym (ap (λ a. if a then Some (Tuple (listed (in_order vs))) else (if is_reserved w then None else Some (One (Made w (in_order vs))))) e)

pub no_only : {B : Type 0} (f : B → Written) (xs : List B) → (length xs == 1) ≡ false → None ≡ only_of (in_order (map f xs))
no_only f [] h = refl
no_only f (x ∷ []) h = cc
no_only f (x ∷ y ∷ xs) h = refl

-- values if none may be
pub none_of_some : {B : Type 0} (f : B → Written) (w : List ℕ) (vs : List B) → bytes_eq w (codes "none") ≡ true → (length vs == 0) ≡ false → None ≡ answer_is (Made w (in_order (map f vs)))
none_of_some f w [] e h = cc
none_of_some f w (v ∷ vs) e h = sym (ap (λ z. answer_is (Made z (in_order (map f (v ∷ vs))))) ((bytes_eq-Decides w (codes "none")).0 e))
