-- Lists in another order.
use Rattle.std.proofs.Common.{◌≡◌, ◌⊎◌, inl, inr, ⊎_elim, ℕ, zero, suc, ◌<◌, List, [], ◌∷◌, ◌++◌, map, length, get_or, set, refl, sym, ap, ◌∙◌, subst, arith}
use Rattle.std.specs.Prelude.{Contains}
use Rattle.std.specs.List.{AllByRecursion, swap}
use Rattle.std.specs.List.Sorted.{IsPermutation}
use Rattle.std.proofs.lemmas.List.{length-set, get_or-set_same, get_or-set_other}
use Rattle.std.proofs.lemmas.List.Edits.{swap_is}
use Rattle.std.proofs.lemmas.List.Sorted.{IsPermutation-keeps}
use Rattle.isle_core.proofs.Contained.{head_contained, tail_contained, contained_cases}
use Rattle.isle_blocks.specs.Reordered.{PutIn, here, later, IsReordered, nothing, more}

-- ---- one more

-- after others
pub put_behind : {A : Type 0} (us : List A) (x : A) (ys zs : List A) → PutIn x ys zs → PutIn x (us ++ ys) (us ++ zs)
put_behind [] x ys zs k = k
put_behind (u ∷ us) x ys zs k = later u (us ++ ys) (us ++ zs) (put_behind us x ys zs k)

-- before others
pub put_before : {A : Type 0} (us : List A) (x : A) (ys zs : List A) → PutIn x ys zs → PutIn x (ys ++ us) (zs ++ us)
put_before us x ys zs (here ys') = here (ys ++ us)
put_before us x ys zs (later y ys' zs' k) = later y (ys' ++ us) (zs' ++ us) (put_before us x ys' zs' k)

put_has : {A : Type 0} (x : A) (ys zs : List A) (y : A) → PutIn x ys zs → Contains zs y → (x ≡ y) ⊎ Contains ys y
put_has x ys zs y (here ys') c = contained_cases x ys y c
put_has x ys zs y (later w ys' zs' k) c =
    ⊎_elim (λ (e : w ≡ y). inr (subst (Contains (w ∷ ys')) e (head_contained w ys')))
    (λ d. ⊎_elim (λ e. inl e) (λ j. inr (tail_contained w ys' y j)) (put_has x ys' zs' y k d)) (contained_cases w zs' y c)

put_keeps : {A : Type 0} (x : A) (ys zs : List A) (y : A) → PutIn x ys zs → (x ≡ y) ⊎ Contains ys y → Contains zs y
put_keeps x ys zs y (here ys') c = ⊎_elim (λ (e : x ≡ y). subst (Contains (x ∷ ys)) e (head_contained x ys)) (λ j. tail_contained x ys y j) c
put_keeps x ys zs y (later w ys' zs' k) c =
    ⊎_elim (λ e. tail_contained w zs' y (put_keeps x ys' zs' y k (inl e)))
    (λ j. ⊎_elim (λ (e : w ≡ y). subst (Contains (w ∷ zs')) e (head_contained w zs')) (λ d. tail_contained w zs' y (put_keeps x ys' zs' y k (inr d))) (contained_cases w ys' y j)) c

pub put_all : {A : Type 0} (P : A → Type 0) (x : A) (ys zs : List A) → PutIn x ys zs → P x → AllByRecursion P ys → AllByRecursion P zs
put_all P x ys zs (here ys') p h = (p, h)
put_all P x ys zs (later y ys' zs' k) p h = (h.0, put_all P x ys' zs' k p h.1)

-- ---- all of them

-- the same after one another
pub reorder_append : {A : Type 0} (xs ys us vs : List A) → IsReordered xs ys → IsReordered us vs → IsReordered (xs ++ us) (ys ++ vs)
reorder_append xs ys us vs nothing k = k
reorder_append xs ys us vs (more x xs' ys' ys'' h i) k = more x (xs' ++ us) (ys' ++ vs) (ys ++ vs) (reorder_append xs' ys' us vs h k) (put_before vs x ys' ys i)

-- what is so of each before is so of each after
pub reorder_all : {A : Type 0} (P : A → Type 0) (xs ys : List A) → IsReordered xs ys → AllByRecursion P xs → AllByRecursion P ys
reorder_all P xs ys nothing h = tt
reorder_all P xs ys (more x xs' ys' ys'' k i) h = put_all P x ys' ys i h.0 (reorder_all P xs' ys' k h.1)

pub reorder_has : {A : Type 0} (xs ys : List A) (y : A) → IsReordered xs ys → Contains ys y → Contains xs y
reorder_has xs ys y nothing c = c
reorder_has xs ys y (more x xs' ys' ys'' k i) c = ⊎_elim (λ (e : x ≡ y). subst (Contains (x ∷ xs')) e (head_contained x xs')) (λ d. tail_contained x xs' y (reorder_has xs' ys' y k d)) (put_has x ys' ys y i c)

pub reorder_keeps : {A : Type 0} (xs ys : List A) (y : A) → IsReordered xs ys → Contains xs y → Contains ys y
reorder_keeps xs ys y nothing c = c
reorder_keeps xs ys y (more x xs' ys' ys'' k i) c = put_keeps x ys' ys y i (⊎_elim (λ e. inl e) (λ d. inr (reorder_keeps xs' ys' y k d)) (contained_cases x xs' y c))

-- ---- twice

-- two that were put in one after the other, the other way round
record PutBoth {A : Type 0} (x y : A) (us zs : List A) : Type 0 where
  pub mid : List A
  pub first : PutIn y us mid
  pub second : PutIn x mid zs

put_both : {A : Type 0} (x y : A) (us vs zs : List A) → PutIn x us vs → PutIn y vs zs → PutBoth x y us zs
put_both x y us vs zs i (here vs') = record { mid = y ∷ us; first = here us; second = later y us vs i }
put_both x y us vs zs (here us') (later w vs' zs' k) = record { mid = zs'; first = k; second = here zs' }
put_both x y us vs zs (later w us' vs' i) (later w' vs'' zs' k) =
    let r = put_both x y us' vs' zs' i k in
    record { mid = w ∷ r.mid; first = later w us' r.mid r.first; second = later w r.mid zs' r.second }

-- what an order makes of a list with one more
record OneLess {A : Type 0} (x : A) (ys zs : List A) : Type 0 where
  pub less : List A
  pub order : IsReordered ys less
  pub put : PutIn x less zs

one_less : {A : Type 0} (x : A) (us ys zs : List A) → PutIn x us ys → IsReordered ys zs → OneLess x us zs
one_less x us ys zs (here us') (more x' us'' ws zs' h i) = record { less = ws; order = h; put = i }
one_less x us ys zs (later y us' ys' k) (more y' ys'' ws zs' h i) =
    let r = one_less x us' ys' ws k h in
    let b = put_both x y r.less ws zs r.put i in
    record { less = b.mid; order = more y us' r.less b.mid r.order b.first; put = b.second }

-- an order of an order
pub reorder_twice : {A : Type 0} (xs ys zs : List A) → IsReordered xs ys → IsReordered ys zs → IsReordered xs zs
reorder_twice xs ys zs nothing k = k
reorder_twice xs ys zs (more x xs' ys' ys'' h i) k = let r = one_less x ys' ys zs i k in more x xs' r.less zs (reorder_twice xs' ys' r.less h r.order) r.put

-- ---- the other way round

put_front : {A : Type 0} (x : A) (ys zs xs : List A) → PutIn x ys zs → IsReordered ys xs → IsReordered zs (x ∷ xs)
put_front x ys zs xs (here ys') h = more x ys xs (x ∷ xs) h (here xs)
put_front x ys zs xs (later y ys' zs' k) (more y' ys'' ws xs' h i) = more y zs' (x ∷ ws) (x ∷ xs) (put_front x ys' zs' ws k h) (later x ws xs i)

pub reorder_back : {A : Type 0} (xs ys : List A) → IsReordered xs ys → IsReordered ys xs
reorder_back xs ys nothing = nothing
reorder_back xs ys (more x xs' ys' ys'' h i) = put_front x ys' ys xs' i (reorder_back xs' ys' h)

pub reorder_same : {A : Type 0} (xs : List A) → IsReordered xs xs
reorder_same [] = nothing
reorder_same (x ∷ xs) = more x xs xs (x ∷ xs) (reorder_same xs) (here xs)

-- what is left if one is taken away
put_left : {A : Type 0} (x y : A) (ys zs us vs : List A) → x ≡ y → us ≡ vs → PutIn x ys us → PutIn y zs vs → IsReordered ys zs
put_left x y ys zs us vs e h (here ys') (here zs') = let tail : ys ≡ zs = cc in subst (IsReordered ys) tail (reorder_same ys)
put_left {A} x y ys zs us vs e h (here ys') (later w zs' vs' k) =
    let tail : vs' ≡ ys = cc in
    let head : y ≡ w = cc in
    reorder_back zs ys (more w zs' zs' ys (reorder_same zs') (subst (λ (l : List A). PutIn w zs' l) tail (subst (λ (z : A). PutIn z zs' vs') head k)))
put_left {A} x y ys zs us vs e h (later w ys' us' k) (here zs') =
    let tail : us' ≡ zs = cc in
    let head : x ≡ w = cc in
    more w ys' ys' zs (reorder_same ys') (subst (λ (l : List A). PutIn w ys' l) tail (subst (λ (z : A). PutIn z ys' us') head k))
put_left {A} x y ys zs us vs e h (later w ys' us' k) (later w' zs' vs' l) =
    let tail : us' ≡ vs' = cc in
    let head : w ≡ w' = cc in
    more w ys' zs' zs (put_left x y ys' zs' us' vs' e tail k l) (subst (λ (z : A). PutIn w zs' (z ∷ zs')) head (here zs'))

-- ---- places exchanged

-- a list with another one at a place
record SetAt {A : Type 0} (xs : List A) (i : ℕ) (x y : A) : Type 0 where
  pub rest : List A
  pub was : PutIn x rest xs
  pub is : PutIn y rest (set xs i y)

set_at : {A : Type 0} (xs : List A) (i : ℕ) (d y : A) → i < length xs → SetAt xs i (get_or xs i d) y
set_at [] i d y lt = absurd (omega (arith, lt))
set_at (x ∷ xs) zero d y lt = record { rest = xs; was = here xs; is = here xs }
set_at (x ∷ xs) (suc i) d y lt =
    let r = set_at xs i d y (omega (arith, lt)) in
    record { rest = x ∷ r.rest; was = later x r.rest xs r.was; is = later x r.rest (set xs i y) r.is }

same_place : (i j : ℕ) → (i ≡ j) ⊎ (i ≡ j → ⊥)
same_place i j = grind (arith)

swap_reorders : {A : Type 0} (xs : List A) (i j : ℕ) (d : A) → i < length xs → j < length xs → IsReordered xs (swap xs i j)
swap_reorders {A} xs i j d p q =
    let x = get_or xs i d in
    let y = get_or xs j d in
    let ys = set xs i y in
    let long : length ys ≡ length xs = length-set xs i y in
    let first = set_at xs i d y p in
    let second = set_at ys j d x (omega (arith, q, long)) in
    let still : get_or ys j d ≡ y = ⊎_elim (λ (e : j ≡ i). ap (λ n. get_or ys n d) e ∙ get_or-set_same xs i y d p) (λ n. get_or-set_other xs i j y d n) (same_place j i) in
    let left = put_left y (get_or ys j d) first.rest second.rest ys ys (sym still) refl first.is second.was in
    let moved = reorder_twice xs (x ∷ first.rest) (x ∷ second.rest) (reorder_back (x ∷ first.rest) xs (more x first.rest first.rest xs (reorder_same first.rest) first.was)) (more x first.rest second.rest (x ∷ second.rest) left (here second.rest)) in
    subst (IsReordered xs) (swap_is xs i j d p q)
    (reorder_twice xs (x ∷ second.rest) (set ys j x) moved (more x second.rest second.rest (set ys j x) (reorder_same second.rest) second.is))

some_of : {A : Type 0} (xs : List A) → 0 < length xs → A
some_of [] lt = absurd (omega (arith, lt))
some_of (x ∷ xs) lt = x

-- a permutation is an order
pub permutation_reorders : {A : Type 0} (xs ys : List A) → IsPermutation xs ys → IsReordered xs ys
permutation_reorders xs ys h = IsPermutation-keeps xs (IsReordered xs) (reorder_same xs)
    (λ l i j p q k. reorder_twice xs l (swap l i j) k (swap_reorders l i j (some_of l (omega (arith, p))) p q)) ys h

-- ---- what goes with others

module _ {A B : Type 0} (f : A → B) where
  -- what is put in beside
  record PutBeside (x : A) (xs : List A) (zs : List B) : Type 0 where
    pub list : List A
    pub put : PutIn x xs list
    pub same : map f list ≡ zs

  put_beside : (x : A) (y : B) → f x ≡ y → (xs : List A) (ys zs : List B) → map f xs ≡ ys → PutIn y ys zs → PutBeside x xs zs
  put_beside x y one xs ys zs e (here ys') = record { list = x ∷ xs; put = here xs; same = ap (λ b. b ∷ map f xs) one ∙ ap (λ bs. y ∷ bs) e }
  put_beside x y one [] ys zs e (later w ys' zs' k) = absurd cc
  put_beside x y one (v ∷ xs) ys zs e (later w ys' zs' k) =
      let head : f v ≡ w = cc in
      let tail : map f xs ≡ ys' = cc in
      let r = put_beside x y one xs ys' zs' tail k in
      record { list = v ∷ r.list; put = later v xs r.list r.put; same = ap (λ b. b ∷ map f r.list) head ∙ ap (λ bs. w ∷ bs) r.same }

  -- an order of what is made of a list comes from one of the list
  pub record Beside (xs : List A) (zs : List B) : Type 0 where
    pub list : List A
    pub order : IsReordered xs list
    pub same : map f list ≡ zs

  beside_of : (xs : List A) (ys zs : List B) → map f xs ≡ ys → IsReordered ys zs → Beside xs zs
  beside_of [] ys zs e nothing = record { list = []; order = nothing; same = refl }
  beside_of (x ∷ xs) ys zs e nothing = absurd cc
  beside_of [] ys zs e (more y ys' ws zs' h i) = absurd cc
  beside_of (x ∷ xs) ys zs e (more y ys' ws zs' h i) =
      let head : f x ≡ y = cc in
      let tail : map f xs ≡ ys' = cc in
      let r = beside_of xs ys' ws tail h in
      let p = put_beside x y head r.list ws zs r.same i in
      record { list = p.list; order = more x xs r.list p.list r.order p.put; same = p.same }

  pub reorder_beside : (xs : List A) (zs : List B) → IsReordered (map f xs) zs → Beside xs zs
  reorder_beside xs zs h = beside_of xs (map f xs) zs refl h
