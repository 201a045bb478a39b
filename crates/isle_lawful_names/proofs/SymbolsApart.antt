-- Symbols are told by their texts.
use Rattle.std.proofs.Common.{◌≡◌, ℕ, zero, suc, List, [], ◌∷◌, true, false, refl, sym, ap, subst}
use Rattle.std.specs.Prelude.{IsTrue, slice_index_or}
use Rattle.std.specs.List.{AllByRecursion, IsDistinct}
use Rattle.std.specs.Str.{bytes_eq}
use Rattle.std.proofs.lemmas.Map.Keys.{IsDistinct-head, IsDistinct-tail}
use Rattle.std.proofs.lemmas.Slice.Eq.{bytes_eq-Decides}
use Rattle.isle_spelling.specs.Identifier.{begins}

-- a text that is not empty stands at none of these places
nowhere : (text : List ℕ) (texts : List (List ℕ)) (i : ℕ) → AllByRecursion (λ y. bytes_eq text y ≡ false) texts → text ≡ slice_index_or texts i [] → IsTrue (begins text) → ⊥
nowhere text [] zero h e some = let bad = subst (λ t. IsTrue (begins t)) e some in absurd cc
nowhere text [] (suc i) h e some = let bad = subst (λ t. IsTrue (begins t)) e some in absurd cc
nowhere text (y ∷ texts) zero h e some = let same : bytes_eq text y ≡ true = (bytes_eq-Decides text y).1 e in let other = h.0 in absurd cc
nowhere text (y ∷ texts) (suc i) h e some = nowhere text texts i h.1 e some

-- one text that is not empty stands at one place alone
pub one_place : (texts : List (List ℕ)) (i j : ℕ) → IsDistinct bytes_eq texts → slice_index_or texts i [] ≡ slice_index_or texts j [] → IsTrue (begins (slice_index_or texts i [])) → i ≡ j
one_place [] zero j d e some = absurd cc
one_place [] (suc i) j d e some = absurd cc
one_place (x ∷ texts) zero zero d e some = refl
one_place (x ∷ texts) zero (suc j) d e some = absurd (nowhere x texts j (IsDistinct-head bytes_eq x texts d) e some)
one_place (x ∷ texts) (suc i) zero d e some = absurd (nowhere x texts i (IsDistinct-head bytes_eq x texts d) (sym e) (subst (λ t. IsTrue (begins t)) e some))
one_place (x ∷ texts) (suc i) (suc j) d e some = ap suc (one_place texts i j (IsDistinct-tail bytes_eq x texts d) e some)
