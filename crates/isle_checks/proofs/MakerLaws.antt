-- The first rule of a group that makes an error of a rule.
use Rattle.std.proofs.Common.{◌≡◌, ⊎_elim, ℕ, ◌+◌, ◌<◌, ◌≤◌, List, [], ◌∷◌, length, get_or, drop, refl, sym, ap, ◌∙◌, subst, arith, Some}
use Rattle.std.specs.Prelude.{Contains}
use Rattle.std.specs.List.{AllByRecursion}
use Rattle.std.proofs.lemmas.List.{drop_more}
use Rattle.isle_core.proofs.Contained.{contained_cases, none_contained}
use Rattle.isle_checks.specs.declared.placed.Check.{Check}
use Rattle.isle_checks.specs.declared.placed.Placed.{Placed}
use Rattle.isle_checks.specs.Makes.{Makes}
use Rattle.isle_checks.specs.Lists.{Rises}
use Rattle.isle_checks.specs.Firsts.{IsFirstMaker}

-- what holds of each item holds of one
pub of_all : {X : Type 0} (P : X → Type 0) (xs : List X) (y : X) → AllByRecursion P xs → Contains xs y → P y
of_all P [] y h c = absurd (none_contained y c)
of_all P (x ∷ xs) y h c = ⊎_elim (λ e. subst P e h.0) (λ k. of_all P xs y h.1 k) (contained_cases x xs y c)

-- an item at a place is contained
pub at_contained : {X : Type 0} (xs : List X) (i : ℕ) (x : X) → i < length xs → x ≡ get_or xs i x → Contains xs x
at_contained xs i x lt e = (i, lt, sym e)

-- what holds of what is left holds of the next item and of those after it
pub next_left : {X : Type 0} (P : List X → Type 0) (xs : List X) (i : ℕ) (x : X) → i < length xs → x ≡ get_or xs i x → P (drop i xs) → P (x ∷ drop (i + 1) xs)
next_left P xs i x lt e h = subst P (drop_more xs i x lt ∙ ap (λ y. y ∷ drop (i + 1) xs) (sym e)) h

-- all that make an error are left
abbrev pub AreLeft : Check → List Placed → Placed → List Placed → Type 0
AreLeft check makers b left = Rises left × ((a : Placed) → Contains makers a → Makes check a b → Contains left a)

first_of : (check : Check) (makers left : List Placed) (a b : Placed) → AreLeft check makers b (a ∷ left) → Contains makers a → Makes check a b → IsFirstMaker check makers b (Some a.place)
first_of check makers left a b h among makes = (
  (a, among, refl, makes),
  λ c k m. ⊎_elim (λ (e : a ≡ c). subst (λ (x : Placed). a.place ≤ x.place) e (omega arith)) (λ d. let lt : a.place < c.place = of_all (λ (x : Placed). a.place < x.place) left c h.0.0 d in omega (arith, lt)) (contained_cases a left c (h.1 c k m)),
)

pub maker_found : (check : Check) (makers : List Placed) (i : ℕ) (a b : Placed) → i < length makers → a ≡ get_or makers i a → AreLeft check makers b (drop i makers) → Makes check a b → IsFirstMaker check makers b (Some a.place)
maker_found check makers i a b lt e h makes = first_of check makers (drop (i + 1) makers) a b (next_left (AreLeft check makers b) makers i a lt e h) (at_contained makers i a lt e) makes

passed : (check : Check) (makers left : List Placed) (a b : Placed) → AreLeft check makers b (a ∷ left) → (Makes check a b → ⊥) → AreLeft check makers b left
passed check makers left a b h none = (h.0.1, λ c k m. ⊎_elim (λ (e : a ≡ c). absurd (none (subst (λ x. Makes check x b) (sym e) m))) (λ d. d) (contained_cases a left c (h.1 c k m)))

pub maker_passed : (check : Check) (makers : List Placed) (i : ℕ) (a b : Placed) → i < length makers → a ≡ get_or makers i a → AreLeft check makers b (drop i makers) → (Makes check a b → ⊥) → AreLeft check makers b (drop (i + 1) makers)
maker_passed check makers i a b lt e h none = passed check makers (drop (i + 1) makers) a b (next_left (AreLeft check makers b) makers i a lt e h) none
