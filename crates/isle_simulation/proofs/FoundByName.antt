-- What is found by its name if no two names are equal.
use Rattle.std.proofs.Common.{◌≡◌, ◌⊎◌, inl, inr, ⊎_elim, List, [], ◌∷◌, map, Bool, true, false, cond, Option, Some, None, refl, sym, ap, ◌∙◌, subst, ℕ}
use Rattle.std.specs.Prelude.{Contains, find}
use Rattle.std.specs.List.{IsDistinct, cons_option, filter_map}
use Rattle.std.specs.Str.{bytes_eq}
use Rattle.std.specs.Cmp.Lexicographic.{nat_list_eq_equiv}
use Rattle.std.proofs.lemmas.List.Elements.{All-contains, All-from_recursion}
use Rattle.std.proofs.lemmas.Option.{same_Some}
use Rattle.std.proofs.lemmas.Slice.Eq.{bytes_eq-Decides}
use Rattle.isle_core.proofs.Contained.{head_contained, tail_contained, contained_cases, none_contained}

-- the name of an item is among the names
name_contained : {A : Type 0} (name : A → List ℕ) (xs : List A) (x : A) → Contains xs x → Contains (map name xs) (name x)
name_contained name [] x c = absurd (none_contained x c)
name_contained name (y ∷ xs) x c =
    ⊎_elim (λ (e : y ≡ x). subst (λ z. Contains (name z ∷ map name xs) (name x)) (sym e) (head_contained (name x) (map name xs)))
    (λ d. tail_contained (name y) (map name xs) (name x) (name_contained name xs x d)) (contained_cases y xs x c)

-- a name is apart from those after it
name_apart : {A : Type 0} (name : A → List ℕ) (x : A) (xs : List A) (y : A) → IsDistinct bytes_eq (name x ∷ map name xs) → Contains xs y → bytes_eq (name x) (name y) ≡ false
unfolding IsDistinct
name_apart name x xs y d c = All-contains (λ n. bytes_eq (name x) n ≡ false) (map name xs) (name y) (All-from_recursion (λ n. bytes_eq (name x) n ≡ false) (map name xs) d.0) (name_contained name xs y c)

-- names after one are distinct
behind_name : (n : List ℕ) (ns : List (List ℕ)) → IsDistinct bytes_eq (n ∷ ns) → IsDistinct bytes_eq ns
unfolding IsDistinct
behind_name n ns d = d.1

-- an item is found by its name
pub found_by_name : {A : Type 0} (name : A → List ℕ) (xs : List A) (x : A) → IsDistinct bytes_eq (map name xs) → Contains xs x → find (λ y. bytes_eq (name x) (name y)) xs ≡ Some x
found_by_name name [] x d c = absurd (none_contained x c)
found_by_name name (y ∷ xs) x d c = one (contained_cases y xs x c) (found_by_name name xs x (behind_name (name y) (map name xs) d))
  where
    here : (b : Bool) → bytes_eq (name x) (name y) ≡ b → b ≡ true → y ≡ x → cond b (Some y) (find (λ z. bytes_eq (name x) (name z)) xs) ≡ Some x
    here true e is same = ap Some same
    here false e is same = cc

    there : (b : Bool) → bytes_eq (name x) (name y) ≡ b → b ≡ false → find (λ z. bytes_eq (name x) (name z)) xs ≡ Some x → cond b (Some y) (find (λ z. bytes_eq (name x) (name z)) xs) ≡ Some x
    there true e is found = cc
    there false e is found = found

    one : (y ≡ x) ⊎ Contains xs x → (Contains xs x → find (λ z. bytes_eq (name x) (name z)) xs ≡ Some x) → find (λ z. bytes_eq (name x) (name z)) (y ∷ xs) ≡ Some x
    one (inl e) rest = here (bytes_eq (name x) (name y)) refl (subst (λ z. bytes_eq (name x) (name z) ≡ true) (sym e) (nat_list_eq_equiv.refl (name x))) e
    one (inr k) rest = there (bytes_eq (name x) (name y)) refl (nat_list_eq_equiv.symm (name x) (name y) ∙ name_apart name y xs x d k) (rest k)

-- ---- items after one that may be there

-- an item more, or none
pub after_option : {A : Type 0} (o : Option A) (xs : List A) (x : A) → Contains xs x → Contains (cons_option o xs) x
after_option None xs x c = c
after_option (Some y) xs x c = tail_contained y xs x c

pub at_option : {A : Type 0} (o : Option A) (xs : List A) (x : A) → o ≡ Some x → Contains (cons_option o xs) x
at_option None xs x e = cc
at_option (Some y) xs x e = subst (λ z. Contains (z ∷ xs) x) (sym (same_Some y x e)) (head_contained x xs)

-- names after it are distinct
pub behind_option : {A : Type 0} (name : A → List ℕ) (o : Option A) (xs : List A) → IsDistinct bytes_eq (map name (cons_option o xs)) → IsDistinct bytes_eq (map name xs)
behind_option name None xs d = d
behind_option name (Some x) xs d = behind_name (name x) (map name xs) d

-- and its name is none of those
pub option_apart : {A : Type 0} (name : A → List ℕ) (o : Option A) (xs : List A) (x y : A) → o ≡ Some x → IsDistinct bytes_eq (map name (cons_option o xs)) → Contains xs y → name x ≡ name y → ⊥
option_apart name None xs x y e d c same = cc
option_apart name (Some z) xs x y e d c same =
    let is : name z ≡ name y = ap name (same_Some z x e) ∙ same in
    let apart : bytes_eq (name z) (name y) ≡ false = name_apart name z xs y d c in
    let equal : bytes_eq (name z) (name y) ≡ true = (bytes_eq-Decides (name z) (name y)).1 is in
    let bad : false ≡ true = sym apart ∙ equal in cc

-- ---- what is given of items

-- what is given of an item is among what is given
pub given_contained : {A B : Type 0} (f : A → Option B) (xs : List A) (x : A) (y : B) → f x ≡ Some y → Contains xs x → Contains (filter_map f xs) y
given_contained f [] x y e c = absurd (none_contained x c)
given_contained f (z ∷ xs) x y e c = ⊎_elim (λ (same : z ≡ x). at_option (f z) (filter_map f xs) y (ap f same ∙ e)) (λ d. after_option (f z) (filter_map f xs) y (given_contained f xs x y e d)) (contained_cases z xs x c)

-- items that give one name are one
pub one_of_name : {A B : Type 0} (f : A → Option B) (name : B → List ℕ) (xs : List A) (x y : A) (a b : B) → IsDistinct bytes_eq (map name (filter_map f xs)) → f x ≡ Some a → f y ≡ Some b → name a ≡ name b → Contains xs x → Contains xs y → x ≡ y
one_of_name f name [] x y a b d e g same c k = absurd (none_contained x c)
one_of_name f name (z ∷ xs) x y a b d e g same c k =
    by (contained_cases z xs x c) (contained_cases z xs y k) (one_of_name f name xs x y a b (behind_option name (f z) (filter_map f xs) d) e g same)
  where
    by : (z ≡ x) ⊎ Contains xs x → (z ≡ y) ⊎ Contains xs y → (Contains xs x → Contains xs y → x ≡ y) → x ≡ y
    by (inl p) (inl q) rest = sym p ∙ q
    by (inl p) (inr q) rest = absurd (option_apart name (f z) (filter_map f xs) a b (ap f p ∙ e) d (given_contained f xs y b g q) same)
    by (inr p) (inl q) rest = absurd (option_apart name (f z) (filter_map f xs) b a (ap f q ∙ g) d (given_contained f xs x a e p) (sym same))
    by (inr p) (inr q) rest = rest p q
