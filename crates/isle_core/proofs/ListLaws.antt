-- Small laws of lists: what is found in one that is mapped, what a filter keeps, and what stands at a seam.
use Rattle.std.proofs.Common.{◌≡◌, List, [], ◌∷◌, ◌++◌, Bool, true, false, cond, length, map, Option, Some, refl, sym, ap, ◌∙◌, ⊎_elim, subst}
use Rattle.std.specs.Prelude.{Contains, filter, find, option_map, slice_index_or}
use Rattle.isle_core.proofs.Contained.{head_contained, tail_contained, contained_cases, none_contained}

-- a test that is both true and false
pub not_both : {b : Bool} → b ≡ true → b ≡ false → ⊥
not_both h k = let bad : true ≡ false = sym h ∙ k in cc

map_cond : {A B : Type 0} (f : A → B) (b : Bool) (x : A) (o : Option A) (p : Option B) → p ≡ option_map f o → cond b (Some (f x)) p ≡ option_map f (cond b (Some x) o)
map_cond f true x o p e = refl
map_cond f false x o p e = e

-- what is found in a mapped list
pub find_map : {A B : Type 0} (f : A → B) (test : B → Bool) (xs : List A) → find test (map f xs) ≡ option_map f (find (λ x. test (f x)) xs)
find_map f test [] = refl
find_map f test (x ∷ xs) = map_cond f (test (f x)) x (find (λ y. test (f y)) xs) (find test (map f xs)) (find_map f test xs)

-- what a filter keeps is there, and passes
pub filter_from : {A : Type 0} (test : A → Bool) (xs : List A) (x : A) → Contains (filter test xs) x → Contains xs x × (test x ≡ true)
filter_from test [] x c = absurd (none_contained x c)
filter_from test (y ∷ ys) x c = pick (λ d. filter_from test ys x d) (test y) refl c
  where
    behind : (Contains (filter test ys) x → Contains ys x × (test x ≡ true)) → Contains (filter test ys) x → Contains (y ∷ ys) x × (test x ≡ true)
    behind go d = let f = go d in (tail_contained y ys x f.0, f.1)

    pick : (Contains (filter test ys) x → Contains ys x × (test x ≡ true)) → (b : Bool) → test y ≡ b → Contains (cond b (y ∷ filter test ys) (filter test ys)) x → Contains (y ∷ ys) x × (test x ≡ true)
    pick go true e d = ⊎_elim (λ (s : y ≡ x). (subst (λ z. Contains (y ∷ ys) z) s (head_contained y ys), subst (λ z. test z ≡ true) s e)) (behind go) (contained_cases y (filter test ys) x d)
    pick go false e d = behind go d

-- what passes is kept
pub filter_keeps : {A : Type 0} (test : A → Bool) (xs : List A) (x : A) → Contains xs x → test x ≡ true → Contains (filter test xs) x
filter_keeps test [] x c e = absurd (none_contained x c)
filter_keeps test (y ∷ ys) x c e = pick (λ d. filter_keeps test ys x d e) (test y) refl
  where
    pick : (Contains ys x → Contains (filter test ys) x) → (b : Bool) → test y ≡ b → Contains (cond b (y ∷ filter test ys) (filter test ys)) x
    pick go true h = ⊎_elim (λ (s : y ≡ x). subst (λ z. Contains (y ∷ filter test ys) z) s (head_contained y (filter test ys))) (λ d. tail_contained y (filter test ys) x (go d)) (contained_cases y ys x c)
    pick go false h = ⊎_elim (λ (s : y ≡ x). absurd (not_both (ap test s ∙ e) h)) go (contained_cases y ys x c)

-- what stands after the first part
pub at_seam : {A : Type 0} (xs : List A) (y : A) (ys : List A) (d : A) → slice_index_or (xs ++ y ∷ ys) (length xs) d ≡ y
at_seam [] y ys d = refl
at_seam (x ∷ xs) y ys d = at_seam xs y ys d
