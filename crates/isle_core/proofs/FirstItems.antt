-- The firsts of items.
use Rattle.std.proofs.Common.{◌≡◌, ◌⊎◌, ⊎_elim, inl, inr, List, ◌∷◌, sym, subst}
use Rattle.std.specs.Prelude.{Contains}
use Rattle.std.specs.List.{AllByRecursion}
use Rattle.isle_core.specs.StandsFor.{EachOnce, AreFirsts, no_more, again, first}
use Rattle.isle_core.proofs.Contained.{head_contained, tail_contained, contained_cases, none_contained}

-- what is so of items is so of their firsts
pub firsts_within : {A : Type 0} (P : A → Type 0) {seen xs ys : List A} → AreFirsts seen xs ys → AllByRecursion P xs → AllByRecursion P ys
firsts_within P (no_more seen) h = tt
firsts_within P (again seen x xs ys c more) h = firsts_within P more h.1
firsts_within P (first seen x xs ys c more) h = (h.0, firsts_within P more h.1)

-- what is among items was seen before, or is among their firsts
pub firsts_hold : {A : Type 0} {seen xs ys : List A} (x : A) → AreFirsts seen xs ys → Contains xs x → Contains seen x ⊎ Contains ys x
firsts_hold x (no_more seen) c = absurd (none_contained x c)
firsts_hold x (again seen y xs ys s more) c = ⊎_elim (λ (e : y ≡ x). inl (subst (Contains seen) e s)) (λ d. firsts_hold x more d) (contained_cases y xs x c)
firsts_hold x (first seen y xs ys new more) c =
    ⊎_elim (λ (e : y ≡ x). inr (subst (Contains (y ∷ ys)) e (head_contained y ys)))
    (λ d. ⊎_elim (λ s. ⊎_elim (λ (e : y ≡ x). inr (subst (Contains (y ∷ ys)) e (head_contained y ys))) (λ k. inl k) (contained_cases y seen x s)) (λ k. inr (tail_contained y ys x k)) (firsts_hold x more d))
    (contained_cases y xs x c)

-- what is among the firsts of items is among them
pub among_firsts : {A : Type 0} {seen xs ys : List A} (x : A) → AreFirsts seen xs ys → Contains ys x → Contains xs x
among_firsts x (no_more seen) c = c
among_firsts x (again seen y xs ys s more) c = tail_contained y xs x (among_firsts x more c)
among_firsts x (first seen y xs ys new more) c = ⊎_elim (λ (e : y ≡ x). subst (Contains (y ∷ xs)) e (head_contained y xs)) (λ d. tail_contained y xs x (among_firsts x more d)) (contained_cases y ys x c)

-- and was not seen before
pub firsts_new : {A : Type 0} {seen xs ys : List A} (x : A) → AreFirsts seen xs ys → Contains ys x → Contains seen x → ⊥
firsts_new x (no_more seen) c s = none_contained x c
firsts_new x (again seen y xs ys again' more) c s = firsts_new x more c s
firsts_new x (first seen y xs ys new more) c s = ⊎_elim (λ (e : y ≡ x). new (subst (Contains seen) (sym e) s)) (λ d. firsts_new x more d (tail_contained y seen x s)) (contained_cases y ys x c)

-- so none stands twice
pub firsts_once : {A : Type 0} {seen xs ys : List A} → AreFirsts seen xs ys → EachOnce ys
firsts_once (no_more seen) = tt
firsts_once (again seen y xs ys s more) = firsts_once more
firsts_once (first seen y xs ys new more) = (λ c. firsts_new y more c (head_contained y seen), firsts_once more)
