-- Each item of a list where it stands first.
use Rattle.std.proofs.Common.{◌≡◌, arith, ◌⊎◌, inl, inr, ⊎_elim, ℕ, ◌+◌, ◌<◌, ◌≤◌, List, [], ◌∷◌, ◌++◌, length, map, drop, get_or, Bool, true, false, not, cond, Ordering, Less, Equal, Greater, refl, sym, ap, ◌∙◌, subst, append_assoc, append-nil}
use Rattle.std.specs.Prelude.{Contains}
use Rattle.std.specs.Bool.{OnFalse}
use Rattle.std.specs.Ordering.{is_eq, ordering_reverse}
use Rattle.std.specs.Cmp.{IsTotalOrder}
use Rattle.std.specs.BTreeSet.{BTreeSet, contains, Updates}
use Rattle.std.proofs.lemmas.Bool.{false≢true}
use Rattle.std.proofs.lemmas.Map.Views.{btree_set_contains_iff}
use Rattle.std.proofs.lemmas.List.{drop_more, drop_all}
use Rattle.isle_core.specs.StandsFor.{EachOnce, AreFirsts, no_more, again, first}
use Rattle.isle_rulesets.specs.Firsts.{TellsApart}
use Rattle.isle_core.proofs.Contained.{head_contained, tail_contained, contained_cases, none_contained}

-- ---- laws of firsts

one_known : {A : Type 0} (old new : List A) (z : A) → ((y : A) → Contains old y → Contains new y) → (y : A) → Contains (z ∷ old) y → Contains (z ∷ new) y
one_known old new z f y c = ⊎_elim (λ e. subst (Contains (z ∷ new)) e (head_contained z new)) (λ d. tail_contained z new y (f y d)) (contained_cases z old y c)

-- fewer than two items stand first where they stand
pub alone_first : {A : Type 0} (xs found : List A) → length xs < 2 → found ≡ xs → AreFirsts [] xs found
alone_first [] found few e = subst (AreFirsts [] []) (sym e) (no_more [])
alone_first (x ∷ []) found few e = subst (AreFirsts [] (x ∷ [])) (sym e) (first [] x [] [] (λ c. none_contained x c) (no_more (x ∷ [])))
alone_first (x ∷ y ∷ xs) found few e = absurd (omega (arith, few))

-- only what was seen counts, not in which order
firsts_same : {A : Type 0} {seen xs ys : List A} (known : List A) → AreFirsts seen xs ys → ((x : A) → Contains seen x → Contains known x) → ((x : A) → Contains known x → Contains seen x) → AreFirsts known xs ys
firsts_same known (no_more seen) to from = no_more known
firsts_same known (again seen x xs ys c h) to from = again known x xs ys (to x c) (firsts_same known h to from)
firsts_same known (first seen x xs ys c h) to from = first known x xs ys (λ d. c (from x d)) (firsts_same (x ∷ known) h (one_known seen known x to) (one_known known seen x from))

-- a first is one of the items
pub firsts_from : {A : Type 0} {seen xs ys : List A} (x : A) → AreFirsts seen xs ys → Contains ys x → Contains xs x
firsts_from x (no_more seen) c = c
firsts_from x (again seen y xs ys d h) c = tail_contained y xs x (firsts_from x h c)
firsts_from x (first seen y xs ys d h) c = ⊎_elim (λ e. subst (Contains (y ∷ xs)) e (head_contained y xs)) (λ k. tail_contained y xs x (firsts_from x h k)) (contained_cases y ys x c)

-- each item is a first, or was seen
firsts_or_seen : {A : Type 0} {seen xs ys : List A} (x : A) → AreFirsts seen xs ys → Contains xs x → Contains ys x ⊎ Contains seen x
firsts_or_seen x (no_more seen) c = inl c
firsts_or_seen x (again seen y xs ys d h) c = ⊎_elim (λ e. inr (subst (Contains seen) e d)) (λ k. firsts_or_seen x h k) (contained_cases y xs x c)
firsts_or_seen x (first seen y xs ys d h) c =
    let here : y ≡ x → Contains (y ∷ ys) x = λ e. subst (Contains (y ∷ ys)) e (head_contained y ys) in
    ⊎_elim (λ e. inl (here e)) (λ k. ⊎_elim (λ l. inl (tail_contained y ys x l)) (λ l. ⊎_elim (λ e. inl (here e)) (λ m. inr m) (contained_cases y seen x l)) (firsts_or_seen x h k)) (contained_cases y xs x c)

-- so if nothing was seen
pub firsts_keep : {A : Type 0} (xs ys : List A) (x : A) → AreFirsts [] xs ys → Contains xs x → Contains ys x
firsts_keep xs ys x h c = ⊎_elim (λ d. d) (λ d. absurd (none_contained x d)) (firsts_or_seen x h c)

-- what was seen is no first
not_seen : {A : Type 0} {seen xs ys : List A} (x : A) → AreFirsts seen xs ys → Contains ys x → Contains seen x → ⊥
not_seen x (no_more seen) c s = none_contained x c
not_seen x (again seen y xs ys d h) c s = not_seen x h c s
not_seen x (first seen y xs ys d h) c s = ⊎_elim (λ e. d (subst (Contains seen) (sym e) s)) (λ k. not_seen x h k (tail_contained y seen x s)) (contained_cases y ys x c)

-- no first stands twice
pub firsts_once : {A : Type 0} {seen xs ys : List A} → AreFirsts seen xs ys → EachOnce ys
firsts_once (no_more seen) = tt
firsts_once (again seen y xs ys d h) = firsts_once h
firsts_once (first seen y xs ys d h) = ((λ c. not_seen y h c (head_contained y seen)), firsts_once h)

-- ---- the firsts of what is known of items

-- what is known of an item is among what is known of all
pub map_contains : {A B : Type 0} (f : A → B) (xs : List A) (x : A) → Contains xs x → Contains (map f xs) (f x)
map_contains f [] x c = absurd (none_contained x c)
map_contains f (y ∷ xs) x c = ⊎_elim (λ e. subst (λ z. Contains (f y ∷ map f xs) (f z)) e (head_contained (f y) (map f xs))) (λ d. tail_contained (f y) (map f xs) (f x) (map_contains f xs x d)) (contained_cases y xs x c)

-- what is known of items is told of one
pub map_from : {A B : Type 0} (f : A → B) (xs : List A) (y : B) → Contains (map f xs) y → (x : A) × Contains xs x × (f x ≡ y)
map_from f [] y c = absurd (none_contained y c)
map_from f (x ∷ xs) y c = ⊎_elim (λ e. (x, head_contained x xs, e)) (λ d. let h = map_from f xs y d in (h.0, tail_contained x xs h.0 h.1, h.2)) (contained_cases (f x) (map f xs) y c)

-- if items are told apart, the firsts are those of the items
pub firsts_map : {A B : Type 0} {seen xs ys : List A} (f : A → B) → AreFirsts seen xs ys → ((x y : A) → Contains seen x ⊎ Contains xs x → Contains seen y ⊎ Contains xs y → f x ≡ f y → x ≡ y) → AreFirsts (map f seen) (map f xs) (map f ys)
firsts_map f (no_more seen) apart = no_more (map f seen)
firsts_map f (again seen x xs ys c h) apart =
    again (map f seen) (f x) (map f xs) (map f ys) (map_contains f seen x c) (firsts_map f h (λ y z a b e. apart y z (⊎_elim (λ k. inl k) (λ k. inr (tail_contained x xs y k)) a) (⊎_elim (λ k. inl k) (λ k. inr (tail_contained x xs z k)) b) e))
firsts_map f (first seen x xs ys c h) apart =
    first (map f seen) (f x) (map f xs) (map f ys) (λ d. let k = map_from f seen (f x) d in c (subst (Contains seen) (apart k.0 x (inl k.1) (inr (head_contained x xs)) k.2) k.1))
    (firsts_map f h (λ y z a b e. apart y z (moved x seen xs y a) (moved x seen xs z b) e))
  where
    moved : {A : Type 0} (x : A) (seen xs : List A) (y : A) → Contains (x ∷ seen) y ⊎ Contains xs y → Contains seen y ⊎ Contains (x ∷ xs) y
    moved x seen xs y (inl c) = ⊎_elim (λ e. inr (subst (Contains (x ∷ xs)) e (head_contained x xs))) (λ d. inl d) (contained_cases x seen y c)
    moved x seen xs y (inr c) = inr (tail_contained x xs y c)

-- ---- one item after another

-- whatever the firsts of the rest are, they stand after those found
abbrev pub FirstsSoFar : {A : Type 0} → List A → List A → List A → ℕ → Type 0
FirstsSoFar {A} items seen found i = (ys : List A) → AreFirsts seen (drop i items) ys → AreFirsts [] items (found ++ ys)

left_is : {A : Type 0} (xs : List A) (i : ℕ) (x : A) → i < length xs → x ≡ get_or xs i x → drop i xs ≡ x ∷ drop (i + 1) xs
left_is xs i x lt is = drop_more xs i x lt ∙ ap (λ y. y ∷ drop (i + 1) xs) (sym is)

-- an item that was seen
pub first_again : {A : Type 0} (items seen known found : List A) (i : ℕ) (x : A) → i < length items → x ≡ get_or items i x → Contains seen x → known ≡ seen → FirstsSoFar items seen found i → FirstsSoFar items known found (i + 1)
first_again items seen known found i x lt is c same h ys g =
    h ys (subst (λ xs. AreFirsts seen xs ys) (sym (left_is items i x lt is)) (again seen x (drop (i + 1) items) ys c (subst (λ ks. AreFirsts ks (drop (i + 1) items) ys) same g)))

-- an item that is new
pub first_new : {A : Type 0} (items seen known found more : List A) (i : ℕ) (x : A) → i < length items → x ≡ get_or items i x → (Contains seen x → ⊥) → ((y : A) → Contains known y → Contains (x ∷ seen) y) → ((y : A) → Contains (x ∷ seen) y → Contains known y)
    → more ≡ found ++ x ∷ [] → FirstsSoFar items seen found i → FirstsSoFar items known more (i + 1)
first_new items seen known found more i x lt is c to from longer h ys g =
    subst (λ fs. AreFirsts [] items (fs ++ ys)) (sym longer)
    (subst (AreFirsts [] items) (sym (append_assoc found (x ∷ []) ys))
    (h (x ∷ ys) (subst (λ xs. AreFirsts seen xs (x ∷ ys)) (sym (left_is items i x lt is)) (first seen x (drop (i + 1) items) ys c (firsts_same (x ∷ seen) g to from)))))

-- after the last item
pub first_all : {A : Type 0} (items seen found : List A) (i : ℕ) → length items ≤ i → FirstsSoFar items seen found i → AreFirsts [] items found
first_all items seen found i le h = subst (AreFirsts [] items) (append-nil found) (h [] (subst (λ xs. AreFirsts seen xs []) (sym (drop_all i items le)) (no_more seen)))

-- ---- in an ordered set

module _ {K : Type 0} {R : K → K → Ordering} (order : IsTotalOrder R) (exact : TellsApart R) where
  has : (s : BTreeSet K) (x : K) (b : Bool) → contains R s x ≡ b → b ≡ true → Contains s.keys x
  has s x b e t = (btree_set_contains_iff order exact s x).0 (e ∙ t)

  -- an item that the set has
  pub first_left : (items found : List K) (old new : BTreeSet K) (i : ℕ) (x : K) (added : Bool) → i < length items → x ≡ get_or items i x → added ≡ not (contains R old x) → added ≡ false → OnFalse added (new.keys ≡ old.keys) → FirstsSoFar items old.keys found i
      → FirstsSoFar items new.keys found (i + 1)
  first_left items found old new i x added lt is e f same h =
      first_again items old.keys new.keys found i x lt is (has old x (contains R old x) refl (not_false (contains R old x) (sym e ∙ f))) (subst (λ b. OnFalse b (new.keys ≡ old.keys)) f same) h
    where
      not_false : (b : Bool) → not b ≡ false → b ≡ true
      not_false true e = refl
      not_false false e = cc

  -- an item that it has from now on
  pub first_pushed : (items found more : List K) (old new : BTreeSet K) (i : ℕ) (x : K) (added : Bool) → i < length items → x ≡ get_or items i x → added ≡ not (contains R old x) → added ≡ true → Updates R old new x true → more ≡ found ++ x ∷ [] → FirstsSoFar items old.keys found i
      → FirstsSoFar items new.keys more (i + 1)
  first_pushed items found more old new i x added lt is e t u longer h =
      first_new items old.keys new.keys found more i x lt is (λ c. not_both (contains R old x) (sym e ∙ t) ((btree_set_contains_iff order exact old x).1 c))
      (λ y c. to y (is_eq (R x y)) refl (sym (u.0 y) ∙ (btree_set_contains_iff order exact new y).1 c)) (λ y c. (btree_set_contains_iff order exact new y).0 (u.0 y ∙ from y (is_eq (R x y)) refl (contained_cases x old.keys y c))) longer h
    where
      not_both : (b : Bool) → not b ≡ true → b ≡ true → ⊥
      not_both true e f = cc
      not_both false e f = cc

      equal_is : (o : Ordering) → is_eq o ≡ true → o ≡ Equal
      equal_is Less e = cc
      equal_is Equal e = refl
      equal_is Greater e = cc

      itself : (o : Ordering) → o ≡ ordering_reverse o → is_eq o ≡ true
      itself Less e = cc
      itself Equal e = refl
      itself Greater e = cc

      to : (y : K) (b : Bool) → is_eq (R x y) ≡ b → cond b true (contains R old y) ≡ true → Contains (x ∷ old.keys) y
      to y true same c = subst (Contains (x ∷ old.keys)) (exact x y (equal_is (R x y) same)) (head_contained x old.keys)
      to y false same c = tail_contained x old.keys y ((btree_set_contains_iff order exact old y).0 c)

      from : (y : K) (b : Bool) → is_eq (R x y) ≡ b → (x ≡ y) ⊎ Contains old.keys y → cond b true (contains R old y) ≡ true
      from y true same c = refl
      from y false same (inl e) = absurd (false≢true (sym same ∙ ap (λ z. is_eq (R x z)) (sym e) ∙ itself (R x x) (order.antisymm x x)))
      from y false same (inr c) = (btree_set_contains_iff order exact old y).1 c
