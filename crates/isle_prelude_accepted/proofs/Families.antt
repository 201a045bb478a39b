-- Names in families: each family has a class, which a test of names tells, so that families of different classes have no name in common.
use Rattle.std.proofs.Common.{◌≡◌, ◌⊎◌, inl, inr, ℕ, List, [], ◌∷◌, ◌++◌, map, Bool, true, false, cond, Option, Some, None, refl, sym, ap, ap₂, ◌∙◌, subst}
use Rattle.std.specs.Prelude.{flat_map, filter_map, ◌==◌, MatchBool}
use Rattle.std.specs.List.{AllByRecursion, cons_option}
use Rattle.std.proofs.lemmas.Bool.{eq-eqb}
use Rattle.std.proofs.lemmas.List.{append_assoc, append-nil}
use Rattle.isle_prelude_accepted.proofs.Has.{Has, AreApart, has_either, all_has, apart_append}

-- ---- lists of lists

pub flat_append : {A B : Type 0} (q : A → List B) (xs ys : List A) → flat_map q (xs ++ ys) ≡ flat_map q xs ++ flat_map q ys
flat_append q [] ys = refl
flat_append q (x ∷ xs) ys = ap (λ zs. q x ++ zs) (flat_append q xs ys) ∙ sym (append_assoc (q x) (flat_map q xs) (flat_map q ys))

pub flat_flat : {A B C : Type 0} (q : B → List C) (f : A → List B) (xs : List A) → flat_map q (flat_map f xs) ≡ flat_map (λ x. flat_map q (f x)) xs
flat_flat q f [] = refl
flat_flat q f (x ∷ xs) = flat_append q (f x) (flat_map f xs) ∙ ap (λ zs. flat_map q (f x) ++ zs) (flat_flat q f xs)

pub flat_mapped : {A B C : Type 0} (q : B → List C) (f : A → B) (xs : List A) → flat_map q (map f xs) ≡ flat_map (λ x. q (f x)) xs
flat_mapped q f [] = refl
flat_mapped q f (x ∷ xs) = ap (λ zs. q (f x) ++ zs) (flat_mapped q f xs)

pub flat_same : {A B : Type 0} (f g : A → List B) (xs : List A) → ((x : A) → f x ≡ g x) → flat_map f xs ≡ flat_map g xs
flat_same f g [] h = refl
flat_same f g (x ∷ xs) h = ap₂ (λ ys zs. ys ++ zs) (h x) (flat_same f g xs h)

pub flat_none : {A B : Type 0} (xs : List A) → flat_map {A = B} (λ x. []) xs ≡ []
flat_none [] = refl
flat_none (x ∷ xs) = flat_none xs

pub flat_single : {A B : Type 0} (f : A → B) (xs : List A) → flat_map (λ x. f x ∷ []) xs ≡ map f xs
flat_single f [] = refl
flat_single f (x ∷ xs) = ap (λ ys. f x ∷ ys) (flat_single f xs)

pub map_same : {A : Type 0} (xs : List A) → map (λ x. x) xs ≡ xs
map_same [] = refl
map_same (x ∷ xs) = ap (λ ys. x ∷ ys) (map_same xs)

-- what is found of each, as one list
pub found_flat : {A B C : Type 0} (f : A → Option B) (g : B → C) (xs : List A) → map g (filter_map f xs) ≡ flat_map (λ x. map g (cons_option (f x) [])) xs
found_flat f g [] = refl
found_flat {A} {B} {C} f g (x ∷ xs) = by (f x) (found_flat f g xs)
  where
    by : (o : Option B) → map g (filter_map f xs) ≡ flat_map (λ y. map g (cons_option (f y) [])) xs
        → map g (cons_option o (filter_map f xs)) ≡ map g (cons_option o []) ++ flat_map (λ y. map g (cons_option (f y) [])) xs
    by None h = h
    by (Some b) h = ap (λ ys. g b ∷ ys) h

-- ---- families

-- no name is in both
abbrev pub Disjoint : List (List ℕ) → List (List ℕ) → Type 0
Disjoint xs ys = (x : List ℕ) → Has xs x → Has ys x → ⊥

-- the number of a class, and names of it
abbrev pub Family : Type 0
Family = ℕ × List (List ℕ)

-- names of their class, apart
abbrev pub IsFamily : (class : List ℕ → ℕ) → Family → Type 0
IsFamily class f = AreApart f.1 × AllByRecursion (λ x. class x ≡ f.0) f.1

-- two families of one class have no name in common
abbrev pub AreUnlike : Family → Family → Type 0
AreUnlike f g = MatchBool (f.0 == g.0) (Disjoint f.1 g.1) (Unit {0})

-- each two families
abbrev pub EachUnlike : List Family → Type 0
EachUnlike [] = Unit {0}
EachUnlike (f ∷ fs) = AllByRecursion (AreUnlike f) fs × EachUnlike fs

-- the names of families
abbrev pub names_of : List Family → List (List ℕ)
names_of fs = flat_map (λ (f : Family). f.1) fs

module _ (class : List ℕ → ℕ) where
  two_disjoint : (f g : Family) → IsFamily class f → IsFamily class g → AreUnlike f g → Disjoint f.1 g.1
  two_disjoint f g h k unlike = by (f.0 == g.0) refl unlike
    where
      by : (b : Bool) → (f.0 == g.0) ≡ b → MatchBool b (Disjoint f.1 g.1) (Unit {0}) → Disjoint f.1 g.1
      by true e d = d
      by false e d = λ x i j.
          (let same : f.0 ≡ g.0 = sym (all_has (λ y. class y ≡ f.0) f.1 x h.1 i) ∙ all_has (λ y. class y ≡ g.0) g.1 x k.1 j in
          absurd (let both : true ≡ false = sym (eq-eqb f.0 g.0 same) ∙ e in cc))

  all_disjoint : (f : Family) (gs : List Family) → IsFamily class f → AllByRecursion (IsFamily class) gs → AllByRecursion (AreUnlike f) gs
      → Disjoint f.1 (names_of gs)
  all_disjoint f [] h k unlike = λ x i j. j
  all_disjoint f (g ∷ gs) h k unlike = λ x i j. by (two_disjoint f g h k.0 unlike.0) (all_disjoint f gs h k.1 unlike.1) x i (has_either g.1 (names_of gs) x j)
    where
      by : Disjoint f.1 g.1 → Disjoint f.1 (names_of gs) → (x : List ℕ) → Has f.1 x → Has g.1 x ⊎ Has (names_of gs) x → ⊥
      by first rest x i (inl j) = first x i j
      by first rest x i (inr j) = rest x i j

  pub families_apart : (fs : List Family) → AllByRecursion (IsFamily class) fs → EachUnlike fs → AreApart (names_of fs)
  families_apart [] h unlike = tt
  families_apart (f ∷ fs) h unlike = apart_append f.1 (names_of fs) h.0.0 (families_apart fs h.1 unlike.1) (all_disjoint f fs h.0 h.1 unlike.0)

-- ---- classes by tests

-- the number of the first of four tests that passes
abbrev pub first_of_four : (a b c d : Bool) → ℕ
first_of_four a b c d = cond a 0 (cond b 1 (cond c 2 (cond d 3 4)))

pub first_by : (a b c d : Bool) (a' b' c' d' : Bool) → a ≡ a' → b ≡ b' → c ≡ c' → d ≡ d' → first_of_four a b c d ≡ first_of_four a' b' c' d'
first_by a b c d a' b' c' d' ea eb ec ed = ap₂ (λ x y. first_of_four x y c d) ea eb ∙ ap₂ (λ x y. first_of_four a' b' x y) ec ed

-- ---- families that are put together otherwise

-- families in the order and the grouping of a list that is put together of them
pub data Grouped : Type 0 where
  One : Family → Grouped
  Both : Grouped → Grouped → Grouped

-- their names, put together so
abbrev pub grouped_names : Grouped → List (List ℕ)
grouped_names (One f) = f.1
grouped_names (Both g h) = grouped_names g ++ grouped_names h

-- the families, those of others behind them
abbrev pub families_before : Grouped → List Family → List Family
families_before (One f) fs = f ∷ fs
families_before (Both g h) fs = families_before g (families_before h fs)

-- the families
abbrev pub families : Grouped → List Family
families g = families_before g []

regrouped : (g : Grouped) (fs : List Family) → grouped_names g ++ names_of fs ≡ names_of (families_before g fs)
regrouped (One f) fs = refl
regrouped (Both g h) fs =
    append_assoc (grouped_names g) (grouped_names h) (names_of fs) ∙ ap (λ xs. grouped_names g ++ xs) (regrouped h fs) ∙ regrouped g (families_before h fs)

pub grouped_apart : (class : List ℕ → ℕ) (g : Grouped) → AllByRecursion (IsFamily class) (families g) → EachUnlike (families g) → AreApart (grouped_names g)
grouped_apart class g h unlike = subst AreApart (sym (sym (append-nil (grouped_names g)) ∙ regrouped g [])) (families_apart class (families g) h unlike)
