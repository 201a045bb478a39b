-- What stands in a mapped list.
use Rattle.std.proofs.Common.{◌≡◌, ⊎_elim, List, [], ◌∷◌, map, subst}
use Rattle.std.specs.Prelude.{Contains}
use Rattle.isle_core.proofs.Contained.{head_contained, tail_contained, contained_cases, none_contained}

-- what stands in a list stands in it once both are mapped
pub map_has : {A B : Type 0} (f : A → B) (xs : List A) (x : A) → Contains xs x → Contains (map f xs) (f x)
map_has f [] x c = absurd (none_contained x c)
map_has f (y ∷ xs) x c = ⊎_elim
    (λ (same : y ≡ x). subst (λ z. Contains (map f (y ∷ xs)) (f z)) same (head_contained (f y) (map f xs)))
    (λ d. tail_contained (f y) (map f xs) (f x) (map_has f xs x d)) (contained_cases y xs x c)

-- where all of one list stands in another one, so it does once both are mapped
pub map_among : {A B : Type 0} (f : A → B) (xs ys : List A) → ((x : A) → Contains xs x → Contains ys x) → (z : B) → Contains (map f xs) z → Contains (map f ys) z
map_among f [] ys g z c = absurd (none_contained z c)
map_among f (x ∷ xs) ys g z c = ⊎_elim
    (λ (same : f x ≡ z). subst (Contains (map f ys)) same (map_has f ys x (g x (head_contained x xs))))
    (λ d. map_among f xs ys (λ y e. g y (tail_contained x xs y e)) z d) (contained_cases (f x) (map f xs) z c)
