-- Lists after one another in which nothing stands twice.
use Rattle.std.proofs.Common.{◌≡◌, ⊎_elim, ℕ, List, [], ◌∷◌, ◌++◌, sym, subst}
use Rattle.std.specs.Prelude.{Contains}
use Rattle.std.proofs.lemmas.List.Elements.{Contains-append_left, Contains-append_right, Contains-append_cases}
use Rattle.isle_core.specs.StandsFor.{EachOnce}
use Rattle.isle_core.proofs.Contained.{head_contained, tail_contained, contained_cases, none_contained}

pub each_first : (xs ys : List ℕ) → EachOnce (xs ++ ys) → EachOnce xs
each_first [] ys e = tt
each_first (x ∷ xs) ys e = (λ c. e.0 (Contains-append_left xs ys x c), each_first xs ys e.1)

pub each_second : (xs ys : List ℕ) → EachOnce (xs ++ ys) → EachOnce ys
each_second [] ys e = e
each_second (x ∷ xs) ys e = each_second xs ys e.1

pub each_apart : (xs ys : List ℕ) → EachOnce (xs ++ ys) → (k : ℕ) → Contains xs k → Contains ys k → ⊥
each_apart [] ys e k c d = none_contained k c
each_apart (x ∷ xs) ys e k c d = ⊎_elim (λ (is : x ≡ k). e.0 (subst (Contains (xs ++ ys)) (sym is) (Contains-append_right xs ys k d))) (λ j. each_apart xs ys e.1 k j d) (contained_cases x xs k c)

pub each_both : (xs ys : List ℕ) → EachOnce xs → EachOnce ys → ((k : ℕ) → Contains xs k → Contains ys k → ⊥) → EachOnce (xs ++ ys)
each_both [] ys e f apart = f
each_both (x ∷ xs) ys e f apart =
    (λ c. ⊎_elim (λ j. e.0 j) (λ j. apart x (head_contained x xs) j) (Contains-append_cases xs ys x c), each_both xs ys e.1 f (λ k c d. apart k (tail_contained x xs k c) d))
