-- Listing the rules of a group under keys.
use Rattle.std.proofs.Common.{◌≡◌, inl, inr, ⊎_elim, ℕ, zero, suc, ◌+◌, ◌<◌, List, [], ◌∷◌, ◌++◌, length, get_or, take, Bool, true, false, cond, refl, sym, ap, ◌∙◌, subst, arith, Option, Some, None, Ordering}
use Rattle.std.specs.Prelude.{Contains}
use Rattle.std.specs.BTreeMap.{BTreeMap, get, is_at, values, IsOrdered, Updates}
use Rattle.std.specs.Cmp.{IsTotalOrder}
use Rattle.std.specs.List.{slice_get}
use Rattle.std.specs.Map.{lookup, values_of}
use Rattle.std.specs.Option.{unwrap_or}
use Rattle.std.specs.Ordering.{is_eq, ordering_reverse}
use Rattle.std.specs.declared.cmp.Ordering.TheVariants.{Less, Equal, Greater}
use Rattle.std.proofs.lemmas.List.{take_more}
use Rattle.std.proofs.lemmas.List.Elements.{Contains-append_left, Contains-append_right, Contains-append_cases}
use Rattle.std.proofs.lemmas.Map.Entries.{btree_map_get_place}
use Rattle.isle_core.specs.declared.rule_sets.FlatRule.{FlatRule}
use Rattle.isle_core.proofs.Contained.{head_contained, tail_contained, contained_cases, none_contained}
use Rattle.isle_core.proofs.OptionLaws.{some_same}
use Rattle.isle_checks.specs.contracts.lists.KeyOrd.TheImpl.Laws.{total-law}
use Rattle.isle_checks.specs.declared.lists.Key.{Key}
use Rattle.isle_checks.specs.declared.placed.Placed.{Placed}
use Rattle.isle_checks.specs.Lists.{Rises, key_cmp, Listing, under_key, MayGet, AddsUnder, Adds, MayHave, IsListed, AreLists}
use Rattle.isle_checks.proofs.MakerLaws.{of_all}
use Rattle.isle_checks.proofs.PlacedLaws.{only_one, rises_push}

-- ---- keys by their order

key_total : IsTotalOrder key_cmp
key_total = total-law

same_lookup : {K X : Type 0} (R : K → K → Ordering) → IsTotalOrder R → (k q : K) → R k q ≡ Equal → (es : List (K × X)) → lookup (is_at (R k)) es ≡ lookup (is_at (R q)) es
same_lookup R o k q e [] = refl
same_lookup R o k q e (x ∷ es) = ap (λ (p : Ordering). cond (is_eq p) (Some x.1) (lookup (is_at (R k)) es)) (o.congr k q x.0 e) ∙ ap (cond (is_eq (R q x.0)) (Some x.1)) (same_lookup R o k q e es)

-- the rules of what was found
abbrev pub items_of : Option (List Placed) → List Placed
items_of o = unwrap_or o []

-- keys that compare as equal have the same rules
pub same_under : (map : BTreeMap Key (List Placed)) (k q : Key) → key_cmp k q ≡ Equal → under_key map k ≡ under_key map q
same_under map k q e = ap items_of (same_lookup key_cmp key_total k q e map.entries)

tied : (o : Ordering) → is_eq o ≡ true → o ≡ Equal
tied Less e = cc
tied Equal e = refl
tied Greater e = cc

-- a key compares as equal to itself
pub same_key : (k q : Key) → k ≡ q → key_cmp k q ≡ Equal
same_key k q e = subst (λ x. key_cmp k x ≡ Equal) e (by (key_cmp k k) (key_total.antisymm k k))
  where
    by : (o : Ordering) → o ≡ ordering_reverse o → o ≡ Equal
    by Less e' = cc
    by Equal e' = refl
    by Greater e' = cc

-- ---- one rule more

-- a list with one rule more was put under a key
pub added : (old new : BTreeMap Key (List Placed)) (k : Key) (b : Placed) (list : List Placed) → list ≡ under_key old k ++ b ∷ [] → Updates key_cmp old new k (Some list) → AddsUnder k b old new
added old new k b list is u = (ap items_of u.1 ∙ is, λ q. by q (is_eq (key_cmp k q)) refl)
  where
    by : (q : Key) (t : Bool) → is_eq (key_cmp k q) ≡ t → MayGet b (under_key old q) (under_key new q)
    by q true e = inr (ap items_of (u.0 q ∙ ap (λ t. cond t (Some list) (get key_cmp old q)) e) ∙ is ∙ ap (λ xs. xs ++ b ∷ []) (same_under old k q (tied (key_cmp k q) e)))
    by q false e = inl (ap items_of (u.2 q e))

-- a list that was there, or else an empty one, has the rules that were there
there_or_none : (found : Option (List Placed)) (empty : List Placed) → empty ≡ [] → unwrap_or found empty ≡ items_of found
there_or_none None empty none = none
there_or_none (Some list) empty none = refl

-- a list with one rule more
pub pushed_there : (old : BTreeMap Key (List Placed)) (k : Key) (b : Placed) (found : Option (List Placed)) (empty list new : List Placed) → found ≡ get key_cmp old k → empty ≡ [] → list ≡ unwrap_or found empty → new ≡ list ++ b ∷ [] → new ≡ under_key old k ++ b ∷ []
pushed_there old k b found empty list new same none is more =
    more ∙ ap (λ xs. xs ++ b ∷ []) (is ∙ there_or_none found empty none ∙ ap items_of same)

-- rules before one that stands at a place lie below it
pub before_place : (group : List Placed) (i : ℕ) (b : Placed) → Rises group → i < length group → b ≡ get_or group i b → (a : Placed) → Contains (take i group) a → a.place < b.place
before_place [] i b h lt e a c = absurd (omega (arith, lt))
before_place (x ∷ xs) zero b h lt e a c = absurd (none_contained a c)
before_place (x ∷ xs) (suc i) b h lt e a c = ⊎_elim (λ (s : x ≡ a). subst (λ (y : Placed). y.place < b.place) s (of_all (λ (y : Placed). x.place < y.place) xs b h.0 (i, omega (arith, lt), sym e))) (λ d. before_place xs i b h.1 (omega (arith, lt)) e a d) (contained_cases x (take i xs) a c)

module _ (Has : FlatRule → Key → Type 0) (front : List Placed) (b : Placed) (k : Option Key) (old new : Listing) (lt : (a : Placed) → Contains front a → a.place < b.place) (has : MayHave Has b.rule.now k) (adds : Adds k b old new) (h : AreLists Has front old) where
  from_front : (o : Option Key) (xs : List Placed) → MayGet b (old o) xs → (a : Placed) → Contains xs a → Contains (front ++ b ∷ []) a
  from_front o xs (inl e) a c = Contains-append_left front (b ∷ []) a (h.from o a (subst (λ ys. Contains ys a) e c))
  from_front o xs (inr e) a c = ⊎_elim (λ d. Contains-append_left front (b ∷ []) a (h.from o a d)) (λ d. Contains-append_right front (b ∷ []) a d) (Contains-append_cases (old o) (b ∷ []) a (subst (λ ys. Contains ys a) e c))

  rise_still : (o : Option Key) (xs : List Placed) → MayGet b (old o) xs → Rises xs
  rise_still o xs (inl e) = subst Rises (sym e) (h.rise o)
  rise_still o xs (inr e) = subst Rises (sym e) (rises_push (old o) b (h.rise o) (λ a c. lt a (h.from o a c)))

  stays : (xs ys : List Placed) → MayGet b xs ys → (a : Placed) → Contains xs a → Contains ys a
  stays xs ys (inl e) a c = subst (λ zs. Contains zs a) (sym e) c
  stays xs ys (inr e) a c = subst (λ zs. Contains zs a) (sym e) (Contains-append_left xs (b ∷ []) a c)

  here : Contains (new k) b
  here = subst (λ xs. Contains xs b) (sym adds.0) (Contains-append_right (old k) (b ∷ []) b (head_contained b []))

  pub list_more : AreLists Has (front ++ b ∷ []) new
  list_more = record {
    from = λ o a c. from_front o (new o) (adds.1 o) a c;
    rise = λ o. rise_still o (new o) (adds.1 o);
    all = λ a c. ⊎_elim
        (λ d. let l = h.all a d in record { key = l.key; has = l.has; among = stays (old l.key) (new l.key) (adds.1 l.key) a l.among })
        (λ d. subst (IsListed Has new) (only_one b a d) (record { key = k; has = has; among = here }))
        (Contains-append_cases front (b ∷ []) a c);
  }

-- one rule of the group more
pub listed_more : (Has : FlatRule → Key → Type 0) (group : List Placed) (i : ℕ) (b : Placed) (k : Option Key) (old new : Listing) → Rises group → i < length group → b ≡ get_or group i b → MayHave Has b.rule.now k → Adds k b old new → AreLists Has (take i group) old → AreLists Has (take (i + 1) group) new
listed_more Has group i b k old new rise lt is has adds h =
    let more : take (i + 1) group ≡ take i group ++ b ∷ [] = take_more group i b lt ∙ ap (λ x. take i group ++ x ∷ []) (sym is) in
    subst (λ front. AreLists Has front new) (sym more) (list_more Has (take i group) b k old new (before_place group i b rise lt is) has adds h)

-- ---- the lists of a map

value_there : {K X : Type 0} (test : K → Bool) (es : List (K × X)) (v : X) → lookup test es ≡ Some v → Contains (values_of es) v
value_there test [] v h = cc
value_there test (e ∷ es) v h = by (test e.0) (λ k. value_there test es v k) h
  where
    by : (t : Bool) → (lookup test es ≡ Some v → Contains (values_of es) v) → cond t (Some e.1) (lookup test es) ≡ Some v → Contains (values_of (e ∷ es)) v
    by true later k = subst (Contains (values_of (e ∷ es))) (some_same e.1 v k) (head_contained e.1 (values_of es))
    by false later k = tail_contained e.1 (values_of es) v (later k)

-- an entry with a value, and its place
record EntryOf {K X : Type 0} (es : List (K × X)) (v : X) : Type 0 where
  key : K
  place : ℕ
  at : slice_get es place ≡ Some (key, v)

entry_of : {K X : Type 0} (es : List (K × X)) (v : X) → Contains (values_of es) v → EntryOf es v
entry_of [] v c = absurd (none_contained v c)
entry_of (e ∷ es) v c = ⊎_elim
    (λ (s : e.1 ≡ v). record { key = e.0; place = 0; at = ap (λ x. Some (e.0, x)) s })
    (λ d. let k = entry_of es v d in record { key = k.key; place = suc k.place; at = k.at })
    (contained_cases e.1 (values_of es) v c)

-- the key of a list
pub record IsUnder (map : BTreeMap Key (List Placed)) (list : List Placed) : Type 0 where
  pub key : Key
  pub is : under_key map key ≡ list

pub key_of : (map : BTreeMap Key (List Placed)) (list : List Placed) → IsOrdered key_cmp map → Contains (values map) list → IsUnder map list
key_of map list ordered c = let e = entry_of map.entries list c in record { key = e.key; is = ap items_of (btree_map_get_place key_total map e.place e.key list ordered e.at) }

-- the list of a rule
pub record IsHeld (map : BTreeMap Key (List Placed)) (k : Key) : Type 0 where
  pub list : List Placed
  pub there : Contains (values map) list
  pub is : under_key map k ≡ list

pub held : (map : BTreeMap Key (List Placed)) (k : Key) (a : Placed) → Contains (under_key map k) a → IsHeld map k
held map k a c = by (get key_cmp map k) refl
  where
    by : (o : Option (List Placed)) → get key_cmp map k ≡ o → IsHeld map k
    by None e = absurd (none_contained a (subst (λ o. Contains (items_of o) a) e c))
    by (Some list) e = record { list = list; there = value_there (is_at (key_cmp k)) map.entries list e; is = ap items_of e }
