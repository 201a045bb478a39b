-- What stands in a list, and lists in which nothing stands twice.
use Rattle.std.proofs.Common.{◌≡◌, ◌⊎◌, inl, inr, ℕ, ◌+◌, List, [], ◌∷◌, ◌++◌, Bool, true, false, cond, map, Option, Some, None, refl, sym, ap, ◌∙◌, subst}
use Rattle.std.specs.Prelude.{flat_map, filter_map, is_some, option_map, ◌||◌}
use Rattle.std.specs.List.{AllByRecursion, IsDistinct, cons_option, find}
use Rattle.std.specs.Str.{bytes_eq}
use Rattle.std.proofs.lemmas.Slice.Eq.{bytes_eq-Decides}
use Rattle.isle_declarations.specs.Symbols.{index_of}
use Rattle.isle_declarations.specs.Repeats.{repeats_after}

-- ---- what stands in a list

-- it is one of these
abbrev pub Has : {A : Type 0} → List A → A → Type 0
Has [] y = ⊥
Has (x ∷ xs) y = (x ≡ y) ⊎ Has xs y

pub has_front : {A : Type 0} (xs ys : List A) (y : A) → Has xs y → Has (xs ++ ys) y
has_front [] ys y h = absurd h
has_front (x ∷ xs) ys y (inl e) = inl e
has_front (x ∷ xs) ys y (inr h) = inr (has_front xs ys y h)

pub has_back : {A : Type 0} (xs ys : List A) (y : A) → Has ys y → Has (xs ++ ys) y
has_back [] ys y h = h
has_back (x ∷ xs) ys y h = inr (has_back xs ys y h)

pub has_either : {A : Type 0} (xs ys : List A) (y : A) → Has (xs ++ ys) y → Has xs y ⊎ Has ys y
has_either [] ys y h = inr h
has_either (x ∷ xs) ys y (inl e) = inl (inl e)
has_either (x ∷ xs) ys y (inr h) = to (has_either xs ys y h)
  where
    to : Has xs y ⊎ Has ys y → Has (x ∷ xs) y ⊎ Has ys y
    to (inl k) = inl (inr k)
    to (inr k) = inr k

pub has_map : {A B : Type 0} (f : A → B) (xs : List A) (x : A) → Has xs x → Has (map f xs) (f x)
has_map f [] x h = absurd h
has_map f (y ∷ ys) x (inl e) = inl (ap f e)
has_map f (y ∷ ys) x (inr h) = inr (has_map f ys x h)

-- what stands among these is one of those, taken so
pub has_mapped : {A B : Type 0} (f : A → B) (xs : List A) (y : B) → Has (map f xs) y → (x : A) × Has xs x × (f x ≡ y)
has_mapped f [] y h = absurd h
has_mapped f (x ∷ xs) y (inl e) = (x, inl refl, e)
has_mapped f (x ∷ xs) y (inr h) = let r = has_mapped f xs y h in (r.0, inr r.1, r.2)

pub has_flat : {A B : Type 0} (f : A → List B) (xs : List A) (x : A) (y : B) → Has xs x → Has (f x) y → Has (flat_map f xs) y
has_flat f [] x y h k = absurd h
has_flat f (z ∷ zs) x y (inl e) k = has_front (f z) (flat_map f zs) y (subst (λ a. Has (f a) y) (sym e) k)
has_flat f (z ∷ zs) x y (inr h) k = has_back (f z) (flat_map f zs) y (has_flat f zs x y h k)

pub has_flattened : {A B : Type 0} (f : A → List B) (xs : List A) (y : B) → Has (flat_map f xs) y → (x : A) × Has xs x × Has (f x) y
has_flattened f [] y h = absurd h
has_flattened {A} {B} f (x ∷ xs) y h = to (has_flattened f xs y) (has_either (f x) (flat_map f xs) y h)
  where
    Source : List A → Type 0
    Source zs = (z : A) × Has zs z × Has (f z) y

    to : (Has (flat_map f xs) y → Source xs) → Has (f x) y ⊎ Has (flat_map f xs) y → Source (x ∷ xs)
    to rest (inl k) = (x, inl refl, k)
    to rest (inr k) = let r = rest k in (r.0, inr r.1, r.2)

pub has_found : {A B : Type 0} (f : A → Option B) (xs : List A) (x : A) (y : B) → Has xs x → f x ≡ Some y → Has (filter_map f xs) y
has_found f [] x y h e = absurd h
has_found f (z ∷ zs) x y (inl s) e = subst (λ o. Has (cons_option o (filter_map f zs)) y) (sym (ap f s ∙ e)) (inl refl)
has_found {A} {B} f (z ∷ zs) x y (inr h) e = to (f z) (has_found f zs x y h e)
  where
    to : (o : Option B) → Has (filter_map f zs) y → Has (cons_option o (filter_map f zs)) y
    to None k = k
    to (Some b) k = inr k

pub has_source : {A B : Type 0} (f : A → Option B) (xs : List A) (y : B) → Has (filter_map f xs) y → (x : A) × Has xs x × (f x ≡ Some y)
has_source f [] y h = absurd h
has_source {A} {B} f (x ∷ xs) y h = by (f x) refl (has_source f xs y) h
  where
    Source : List A → Type 0
    Source zs = (z : A) × Has zs z × (f z ≡ Some y)

    by : (o : Option B) → f x ≡ o → (Has (filter_map f xs) y → Source xs) → Has (cons_option o (filter_map f xs)) y → Source (x ∷ xs)
    by None e rest k = let r = rest k in (r.0, inr r.1, r.2)
    by (Some b) e rest (inl s) = (x, inl refl, e ∙ ap Some s)
    by (Some b) e rest (inr k) = let r = rest k in (r.0, inr r.1, r.2)

-- what holds of all holds of each
pub all_has : {A : Type 0} (P : A → Type 0) (xs : List A) (x : A) → AllByRecursion P xs → Has xs x → P x
all_has P [] x h k = absurd k
all_has P (y ∷ ys) x h (inl e) = subst P e h.0
all_has P (y ∷ ys) x h (inr k) = all_has P ys x h.1 k

-- what holds of each holds of all
pub has_all : {A : Type 0} (P : A → Type 0) (xs : List A) → ((x : A) → Has xs x → P x) → AllByRecursion P xs
has_all P [] h = tt
has_all P (x ∷ xs) h = (h x (inl refl), has_all P xs (λ y k. h y (inr k)))

-- ---- nothing twice

-- none stands among those behind it
abbrev pub AreApart : {A : Type 0} → List A → Type 0
AreApart [] = Unit {0}
AreApart (x ∷ xs) = (Has xs x → ⊥) × AreApart xs

pub apart_append : {A : Type 0} (xs ys : List A) → AreApart xs → AreApart ys → ((x : A) → Has xs x → Has ys x → ⊥) → AreApart (xs ++ ys)
apart_append [] ys h k never = k
apart_append {A} (x ∷ xs) ys h k never = (not_behind, apart_append xs ys h.1 k (λ y i. never y (inr i)))
  where
    by : Has xs x ⊎ Has ys x → ⊥
    by (inl i) = h.0 i
    by (inr i) = never x (inl refl) i

    not_behind : Has (xs ++ ys) x → ⊥
    not_behind i = by (has_either xs ys x i)

pub apart_parts : {A : Type 0} (xs ys : List A) → AreApart (xs ++ ys) → AreApart xs × AreApart ys × ((x : A) → Has xs x → Has ys x → ⊥)
apart_parts [] ys h = (tt, h, λ x i. absurd i)
apart_parts {A} (x ∷ xs) ys h =
    let r = apart_parts xs ys h.1 in
    ((λ i. h.0 (has_front xs ys x i), r.0), r.1, apart r.2)
  where
    apart : ((y : A) → Has xs y → Has ys y → ⊥) → (y : A) → Has (x ∷ xs) y → Has ys y → ⊥
    apart rest y (inl e) k = h.0 (has_back xs ys x (subst (Has ys) (sym e) k))
    apart rest y (inr i) k = rest y i k

-- a map that tells things apart keeps them so
pub apart_map : {A B : Type 0} (f : A → B) (xs : List A) → ((x y : A) → Has xs x → Has xs y → f x ≡ f y → x ≡ y) → AreApart xs → AreApart (map f xs)
apart_map f [] same h = tt
apart_map f (x ∷ xs) same h = (other, apart_map f xs (λ y z i j. same y z (inr i) (inr j)) h.1)
  where
    other : Has (map f xs) (f x) → ⊥
    other i = let r = has_mapped f xs (f x) i in h.0 (subst (Has xs) (same r.0 x (inr r.1) (inl refl) r.2) r.1)

pub apart_flat : {A B : Type 0} (f : A → List B) (xs : List A) → AreApart xs → ((x : A) → Has xs x → AreApart (f x))
    → ((x y : A) (z : B) → Has xs x → Has xs y → Has (f x) z → Has (f y) z → x ≡ y)
    → AreApart (flat_map f xs)
apart_flat f [] h each same = tt
apart_flat {A} {B} f (x ∷ xs) h each same =
    apart_append (f x) (flat_map f xs) (each x (inl refl)) (apart_flat f xs h.1 (λ y i. each y (inr i)) (λ y z b i j. same y z b (inr i) (inr j))) apart
  where
    apart : (b : B) → Has (f x) b → Has (flat_map f xs) b → ⊥
    apart b i j = let r = has_flattened f xs b j in h.0 (subst (Has xs) (same r.0 x b (inr r.1) (inl refl) r.2 i) r.1)

-- ---- names

pub same_bytes : (a b : List ℕ) → bytes_eq a b ≡ true → a ≡ b
same_bytes a b e = (bytes_eq-Decides a b).0 e

pub own_bytes : (a : List ℕ) → bytes_eq a a ≡ true
own_bytes a = (bytes_eq-Decides a a).1 refl

pub other_bytes : (a b : List ℕ) → (a ≡ b → ⊥) → bytes_eq a b ≡ false
other_bytes a b never = by (bytes_eq a b) refl
  where
    by : (c : Bool) → bytes_eq a b ≡ c → c ≡ false
    by true e = absurd (never (same_bytes a b e))
    by false e = refl

-- a name that is not there has no place
pub no_place_of : (names : List (List ℕ)) (name : List ℕ) → (Has names name → ⊥) → index_of names name ≡ None
no_place_of [] name never = refl
no_place_of (x ∷ xs) name never =
    ap (λ b. cond b (Some 0) (option_map (λ (n : ℕ). n + 1) (index_of xs name))) (other_bytes x name (λ e. never (inl e)))
    ∙ ap (option_map (λ (n : ℕ). n + 1)) (no_place_of xs name (λ i. never (inr i)))

-- one that is there has one
pub place_found : (names : List (List ℕ)) (name : List ℕ) → Has names name → (n : ℕ) × (index_of names name ≡ Some n)
place_found [] name h = absurd h
place_found (x ∷ xs) name h = by (bytes_eq x name) refl (place_found xs name) h
  where
    by : (b : Bool) → bytes_eq x name ≡ b → (Has xs name → (n : ℕ) × (index_of xs name ≡ Some n)) → Has (x ∷ xs) name
        → (n : ℕ) × (cond b (Some 0) (option_map (λ (k : ℕ). k + 1) (index_of xs name)) ≡ Some n)
    by true e rest i = (0, refl)
    by false e rest (inl s) = absurd (let both : true ≡ false = sym (own_bytes x) ∙ ap (bytes_eq x) s ∙ e in cc)
    by false e rest (inr i) = let r = rest i in (r.0 + 1, ap (option_map (λ (k : ℕ). k + 1)) r.1)

-- a place is that of a name which is there
pub placed_there : (names : List (List ℕ)) (name : List ℕ) (n : ℕ) → index_of names name ≡ Some n → Has names name
placed_there [] name n e = absurd cc
placed_there (x ∷ xs) name n e = by (bytes_eq x name) (index_of xs name) refl (placed_there xs name) e
  where
    by : (b : Bool) (o : Option ℕ) → bytes_eq x name ≡ b → ((m : ℕ) → o ≡ Some m → Has xs name)
        → cond b (Some 0) (option_map (λ (k : ℕ). k + 1) o) ≡ Some n → Has (x ∷ xs) name
    by true o s rest k = inl (same_bytes x name s)
    by false None s rest k = absurd cc
    by false (Some m) s rest k = inr (rest m refl)

-- names that are apart, none of which is among those before, don't repeat
pub none_repeat : (before names : List (List ℕ)) → AreApart names → ((x : List ℕ) → Has names x → Has before x → ⊥) → repeats_after before names ≡ false
none_repeat before [] h never = refl
none_repeat before (x ∷ xs) h never =
    ap (λ o. is_some o || repeats_after (before ++ x ∷ []) xs) (no_place_of before x (never x (inl refl)))
    ∙ none_repeat (before ++ x ∷ []) xs h.1 apart
  where
    by : (y : List ℕ) → Has xs y → Has before y ⊎ Has (x ∷ []) y → ⊥
    by y i (inl k) = never y (inr i) k
    by y i (inr (inl e)) = h.0 (subst (Has xs) (sym e) i)
    by y i (inr (inr k)) = k

    apart : (y : List ℕ) → Has xs y → Has (before ++ x ∷ []) y → ⊥
    apart y i k = by y i (has_either before (x ∷ []) y k)

pub apart_distinct : (names : List (List ℕ)) → AreApart names → IsDistinct bytes_eq names
unfolding IsDistinct
apart_distinct [] h = tt
apart_distinct (x ∷ xs) h = (has_all (λ y. bytes_eq x y ≡ false) xs (λ y i. other_bytes x y (λ e. h.0 (subst (Has xs) (sym e) i))), apart_distinct xs h.1)

-- ---- what is found by its name

module _ {A : Type 0} (key : A → List ℕ) where
  -- a thing is found by its name, if no two have one name
  pub found_by : (xs : List A) (x : A) → AreApart (map key xs) → Has xs x → find (λ (y : A). bytes_eq (key y) (key x)) xs ≡ Some x
  found_by [] x h i = absurd i
  found_by (y ∷ ys) x h i = by (bytes_eq (key y) (key x)) refl (found_by ys x h.1) i
    where
      by : (b : Bool) → bytes_eq (key y) (key x) ≡ b → (Has ys x → find (λ (z : A). bytes_eq (key z) (key x)) ys ≡ Some x) → Has (y ∷ ys) x
          → cond b (Some y) (find (λ (z : A). bytes_eq (key z) (key x)) ys) ≡ Some x
      by true e rest (inl s) = ap Some s
      by true e rest (inr k) = absurd (h.0 (subst (Has (map key ys)) (sym (same_bytes (key y) (key x) e)) (has_map key ys x k)))
      by false e rest (inl s) = absurd (let both : true ≡ false = sym (own_bytes (key y)) ∙ ap (λ a. bytes_eq (key y) (key a)) s ∙ e in cc)
      by false e rest (inr k) = rest k

  -- nothing is found by a name that nothing has
  pub found_none : (xs : List A) (name : List ℕ) → (Has (map key xs) name → ⊥) → find (λ (y : A). bytes_eq (key y) name) xs ≡ None
  found_none [] name never = refl
  found_none (y ∷ ys) name never =
      ap (λ b. cond b (Some y) (find (λ (z : A). bytes_eq (key z) name) ys)) (other_bytes (key y) name (λ e. never (inl e)))
      ∙ found_none ys name (λ i. never (inr i))
