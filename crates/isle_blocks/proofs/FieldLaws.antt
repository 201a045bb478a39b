-- Which fields are found.
use Rattle.std.proofs.Common.{◌≡◌, ◌⊎◌, inl, inr, ⊎_elim, ℕ, suc, ◌+◌, ◌<◌, ◌≤◌, ltb, List, [], ◌∷◌, ◌++◌, length, get_or, take, Bool, true, false, cond, Option, Some, None, Ordering, Less, Equal, Greater, refl, sym, ap, ◌∙◌, subst, arith}
use Rattle.std.specs.Prelude.{slice_get}
use Rattle.std.specs.Ordering.{nat_cmp, is_eq, ordering_then}
use Rattle.std.specs.BTreeMap.{BTreeMap, get, Updates}
use Rattle.std.proofs.lemmas.Bool.{ltb-true, ltb-false, lt-ltb}
use Rattle.std.proofs.lemmas.List.{take_more, length-take-le}
use Rattle.std.proofs.lemmas.Map.Lookups.{CmpEqualImpliesEq, exact_unsigned, exact_pairs}
use Rattle.isle_core.specs.declared.BindingId.{BindingId}
use Rattle.isle_core.specs.declared.TupleIndex.{TupleIndex}
use Rattle.isle_core.specs.declared.VariantId.{VariantId}
use Rattle.isle_core.specs.declared.rule_sets.Binding.{Binding}
use Rattle.isle_core.specs.declared.rule_sets.Binding.TheVariants as binding
use Rattle.isle_core.proofs.OptionLaws.{some_same}
use Rattle.isle_blocks.specs.declared.fields.Shown.{Shown}
use Rattle.isle_blocks.specs.declared.fields.Shown.TheVariants as shown
use Rattle.isle_blocks.specs.Fields.{shown_cmp, FieldKey, key_cmp, source_of, part_of, before, field_at, longer, FindsFields}
use Rattle.isle_blocks.proofs.PushedLists.{get_push, get_last, get_either}

-- ---- keys

pub is_equal : (o : Ordering) → is_eq o ≡ true → o ≡ Equal
is_equal Less e = cc
is_equal Equal e = refl
is_equal Greater e = cc

pub then_same : (o p : Ordering) → ordering_then o p ≡ Equal → (o ≡ Equal) × (p ≡ Equal)
then_same Less p e = (cc, cc)
then_same Equal p e = (refl, e)
then_same Greater p e = (cc, cc)

variant_same : (a b : BindingId) (v w : VariantId) → ordering_then (nat_cmp a.0 b.0) (nat_cmp v.0 w.0) ≡ Equal → shown.Variant a v ≡ shown.Variant b w
variant_same a b v w e =
    let h = then_same (nat_cmp a.0 b.0) (nat_cmp v.0 w.0) e in
    let source : a ≡ b = ap (λ n. record { 0 = n }) (exact_unsigned a.0 b.0 h.0) in
    let variant : v ≡ w = ap (λ n. record { 0 = n }) (exact_unsigned v.0 w.0 h.1) in
    ap (λ x. shown.Variant x v) source ∙ ap (shown.Variant b) variant

shown_same : (s r : Shown) → shown_cmp s r ≡ Equal → s ≡ r
shown_same (shown.Variant a v) (shown.Variant b w) e = variant_same a b v w e
shown_same (shown.Struct a) (shown.Struct b) e = ap (λ n. shown.Struct (record { 0 = n })) (exact_unsigned a.0 b.0 e)
shown_same s r e = cc

key_same : (k q : FieldKey) → key_cmp k q ≡ Equal → k ≡ q
key_same = exact_pairs shown_cmp nat_cmp shown_same exact_unsigned

-- one key
abbrev IsKey : FieldKey → FieldKey → Type 0
IsKey k q = k ≡ q

-- ---- one entry more in a map

put_cases : {K X : Type 0} (cmp : K → K → Ordering) → CmpEqualImpliesEq cmp → (old new : BTreeMap K X) (k q : K) (n x : X) → Updates cmp old new k (Some n) → get cmp new q ≡ Some x → ((k ≡ q) × (n ≡ x)) ⊎ (get cmp old q ≡ Some x)
put_cases cmp exact old new k q n x u e = pick (is_eq (cmp k q)) refl (sym (u.0 q) ∙ e)
  where
    pick : (t : Bool) → is_eq (cmp k q) ≡ t → cond t (Some n) (get cmp old q) ≡ Some x → ((k ≡ q) × (n ≡ x)) ⊎ (get cmp old q ≡ Some x)
    pick true h e' = inl (exact k q (is_equal (cmp k q) h), some_same n x e')
    pick false h e' = inr e'

-- what was there is there, or there is the new entry
put_kept : {K X : Type 0} (cmp : K → K → Ordering) → CmpEqualImpliesEq cmp → (old new : BTreeMap K X) (k q : K) (n : X) → Updates cmp old new k (Some n) → ((k ≡ q) × (get cmp new q ≡ Some n)) ⊎ (get cmp new q ≡ get cmp old q)
put_kept cmp exact old new k q n u = pick (is_eq (cmp k q)) refl (u.0 q)
  where
    pick : (t : Bool) → is_eq (cmp k q) ≡ t → get cmp new q ≡ cond t (Some n) (get cmp old q) → ((k ≡ q) × (get cmp new q ≡ Some n)) ⊎ (get cmp new q ≡ get cmp old q)
    pick true h e = inl (exact k q (is_equal (cmp k q) h), e)
    pick false h e = inr e

-- ---- what a binding is

variant_parts : (a b : BindingId) (v w : VariantId) (x y : TupleIndex) → binding.MatchVariant a v x ≡ binding.MatchVariant b w y → (shown.Variant a v ≡ shown.Variant b w) × (x ≡ y)
variant_parts a b v w x y e = (cc, cc)

struct_parts : (a b : BindingId) (x y : TupleIndex) → binding.ExtractStruct a x ≡ binding.ExtractStruct b y → (shown.Struct a ≡ shown.Struct b) × (x ≡ y)
struct_parts a b x y e = (cc, cc)

part_same : (s r : Shown) (i j : ℕ) → part_of s i ≡ part_of r j → (s ≡ r) × (i ≡ j)
part_same (shown.Variant a v) (shown.Variant b w) i j e = let k = variant_parts a b v w (record { 0 = i }) (record { 0 = j }) e in (k.0, ap (λ (z : TupleIndex). z.0) k.1)
part_same (shown.Struct a) (shown.Struct b) i j e = let k = struct_parts a b (record { 0 = i }) (record { 0 = j }) e in (k.0, ap (λ (z : TupleIndex). z.0) k.1)
part_same (shown.Variant a v) (shown.Struct b) i j e = cc
part_same (shown.Struct a) (shown.Variant b w) i j e = cc

-- the field is the one, and its source stands before the place
is_before : (n : ℕ) (s : Shown) (i : TupleIndex) (q : Shown × TupleIndex) → before n s i ≡ Some q → (part_of s i.0 ≡ part_of q.0 q.1.0) × ((source_of q.0).0 < n)
is_before n s i q e = pick (ltb (source_of s).0 n) refl e
  where
    mine : Shown × TupleIndex
    mine = (s, i)

    pick : (t : Bool) → ltb (source_of s).0 n ≡ t → cond t (Some mine) None ≡ Some q → (part_of s i.0 ≡ part_of q.0 q.1.0) × ((source_of q.0).0 < n)
    pick true h e' = subst (λ (z : Shown × TupleIndex). (part_of s i.0 ≡ part_of z.0 z.1.0) × ((source_of z.0).0 < n)) (some_same mine q e') (refl, ltb-true (source_of s).0 n h)
    pick false h e' = cc

is_one : (n : ℕ) (x : Binding) (s : Shown) (field : TupleIndex) → field_at n x ≡ Some (s, field) → (x ≡ part_of s field.0) × ((source_of s).0 < n)
is_one n (binding.MatchVariant source variant f) s field e = is_before n (shown.Variant source variant) f (s, field) e
is_one n (binding.ExtractStruct source f) s field e = is_before n (shown.Struct source) f (s, field) e
is_one n x s field e = cc

none_before : (n : ℕ) (s : Shown) (i : TupleIndex) → before n s i ≡ None → (source_of s).0 < n → ⊥
none_before n s i e lt =
    let one : before n s i ≡ Some (s, i) = ap (λ t. cond {A = Option (Shown × TupleIndex)} t (Some (s, i)) None) (lt-ltb (source_of s).0 n lt) in
    cc

is_none : (n : ℕ) (x : Binding) (s : Shown) (field : ℕ) → field_at n x ≡ None → x ≡ part_of s field → (source_of s).0 < n → ⊥
is_none n x (shown.Variant source variant) field e same lt = none_before n (shown.Variant source variant) (record { 0 = field }) (sym (ap (field_at n) same) ∙ e) lt
is_none n x (shown.Struct source) field e same lt = none_before n (shown.Struct source) (record { 0 = field }) (sym (ap (field_at n) same) ∙ e) lt

-- ---- counts

longer_above : (known : Option ℕ) (field : ℕ) → field < longer known field
longer_above None field = omega arith
longer_above (Some n) field = pick (ltb n (suc field)) refl
  where
    pick : (t : Bool) → ltb n (suc field) ≡ t → field < cond t (suc field) n
    pick true e = omega arith
    pick false e = let h = ltb-false n (suc field) e in omega (arith, h)

longer_keeps : (n field : ℕ) → n ≤ longer (Some n) field
longer_keeps n field = pick (ltb n (suc field)) refl
  where
    pick : (t : Bool) → ltb n (suc field) ≡ t → n ≤ cond t (suc field) n
    pick true e = let h = ltb-true n (suc field) e in omega (arith, h)
    pick false e = omega arith

longer_cases : (known : Option ℕ) (field n : ℕ) → longer known field ≡ n → (n ≡ suc field) ⊎ (known ≡ Some n)
longer_cases None field n e = inl (sym e)
longer_cases (Some m) field n e = pick (ltb m (suc field)) e
  where
    pick : (t : Bool) → cond t (suc field) m ≡ n → (n ≡ suc field) ⊎ (Some m ≡ Some n)
    pick true e' = inl (sym e')
    pick false e' = inr (ap Some e')

-- ---- one binding more

-- it is no field after its source
other_fields : (bs : List Binding) (x : Binding) (found : FieldKey → Option BindingId) (counts : Shown → Option ℕ) → field_at (length bs) x ≡ None → FindsFields bs found counts → FindsFields (bs ++ x ∷ []) found counts
other_fields bs x found counts none h = record {
  is_field = λ s field b e. (get_push bs x b.0 (part_of s field) (h.is_field s field b e).0, (h.is_field s field b e).1);
  all = λ s field b e lt. ⊎_elim
      (λ k. h.all s field b k lt)
      (λ k. absurd (is_none (length bs) x s field none k.1 (subst (λ n. (source_of s).0 < n) k.0 lt)))
      (get_either bs x b.0 (part_of s field) e);
  counted = h.counted;
  last = h.last;
}

-- it is one
one_field : (bs : List Binding) (x : Binding) (s : Shown) (field : TupleIndex) (found found' : BTreeMap FieldKey BindingId) (counts counts' : BTreeMap Shown ℕ) → field_at (length bs) x ≡ Some (s, field)
    → FindsFields bs (get key_cmp found) (get shown_cmp counts) → Updates shown_cmp counts counts' s (Some (longer (get shown_cmp counts s) field.0)) → Updates key_cmp found found' (s, field.0) (Some (record { 0 = length bs }))
    → FindsFields (bs ++ x ∷ []) (get key_cmp found') (get shown_cmp counts')
one_field bs x s field found found' counts counts' one h c u = record { is_field = is_field; all = all; counted = counted; last = last }
  where
    new : BindingId
    new = record { 0 = length bs }

    is : (x ≡ part_of s field.0) × ((source_of s).0 < length bs)
    is = is_one (length bs) x s field one

    is_field : (r : Shown) (i : ℕ) (b : BindingId) → get key_cmp found' (r, i) ≡ Some b → (slice_get (bs ++ x ∷ []) b.0 ≡ Some (part_of r i)) × ((source_of r).0 < b.0)
    is_field r i b e = ⊎_elim here there (put_cases key_cmp key_same found found' (s, field.0) (r, i) new b u e)
      where
        here : IsKey (s, field.0) (r, i) × (new ≡ b) → (slice_get (bs ++ x ∷ []) b.0 ≡ Some (part_of r i)) × ((source_of r).0 < b.0)
        here k = subst (λ (z : BindingId). (slice_get (bs ++ x ∷ []) z.0 ≡ Some (part_of r i)) × ((source_of r).0 < z.0)) k.1
            (subst (λ (q : FieldKey). (slice_get (bs ++ x ∷ []) (length bs) ≡ Some (part_of q.0 q.1)) × ((source_of q.0).0 < length bs)) k.0 (get_last bs x ∙ ap Some is.0, is.1))

        there : get key_cmp found (r, i) ≡ Some b → (slice_get (bs ++ x ∷ []) b.0 ≡ Some (part_of r i)) × ((source_of r).0 < b.0)
        there k = (get_push bs x b.0 (part_of r i) (h.is_field r i b k).0, (h.is_field r i b k).1)

    kept : (r : Shown) (i : ℕ) (b : BindingId) → get key_cmp found (r, i) ≡ Some b → (e : BindingId) × (get key_cmp found' (r, i) ≡ Some e)
    kept r i b e = ⊎_elim (λ k. (new, k.1)) (λ k. (b, k ∙ e)) (put_kept key_cmp key_same found found' (s, field.0) (r, i) new u)

    all : (r : Shown) (i : ℕ) (b : BindingId) → slice_get (bs ++ x ∷ []) b.0 ≡ Some (part_of r i) → (source_of r).0 < b.0 → (e : BindingId) × (get key_cmp found' (r, i) ≡ Some e)
    all r i b e lt = ⊎_elim
        (λ k. let o = h.all r i b k lt in kept r i o.0 o.1)
        (λ k.
        let same = part_same s r field.0 i (sym is.0 ∙ k.1) in
        (new, sym (ap (λ y. get key_cmp found' (y, field.0)) same.0 ∙ ap (λ j. get key_cmp found' (r, j)) same.1) ∙ u.1))
        (get_either bs x b.0 (part_of r i) e)

    counted : (r : Shown) (i : ℕ) (b : BindingId) → get key_cmp found' (r, i) ≡ Some b → (n : ℕ) × (get shown_cmp counts' r ≡ Some n) × (i < n)
    counted r i b e = ⊎_elim here there (put_cases key_cmp key_same found found' (s, field.0) (r, i) new b u e)
      where
        here : IsKey (s, field.0) (r, i) × (new ≡ b) → (n : ℕ) × (get shown_cmp counts' r ≡ Some n) × (i < n)
        here k = subst (λ (q : FieldKey). (n : ℕ) × (get shown_cmp counts' q.0 ≡ Some n) × (q.1 < n)) k.0 (longer (get shown_cmp counts s) field.0, c.1, longer_above (get shown_cmp counts s) field.0)

        more : (n : ℕ) → get shown_cmp counts r ≡ Some n → i < n → (s ≡ r) × (get shown_cmp counts' r ≡ Some (longer (get shown_cmp counts s) field.0)) → (m : ℕ) × (get shown_cmp counts' r ≡ Some m) × (i < m)
        more n e' lt k =
            let is' : longer (get shown_cmp counts s) field.0 ≡ longer (Some n) field.0 = ap (λ o. longer o field.0) (ap (get shown_cmp counts) k.0 ∙ e') in
            let long = longer_keeps n field.0 in
            (longer (Some n) field.0, k.1 ∙ ap Some is', omega (arith, lt, long))

        there : get key_cmp found (r, i) ≡ Some b → (n : ℕ) × (get shown_cmp counts' r ≡ Some n) × (i < n)
        there k =
            let o = h.counted r i b k in
            ⊎_elim (more o.0 o.1 o.2) (λ j. (o.0, j ∙ o.1, o.2)) (put_kept shown_cmp shown_same counts counts' s r (longer (get shown_cmp counts s) field.0) c)

    last : (r : Shown) (n : ℕ) → get shown_cmp counts' r ≡ Some n → (i : ℕ) × (b : BindingId) × (n ≡ suc i) × (get key_cmp found' (r, i) ≡ Some b)
    last r n e = ⊎_elim here there (put_cases shown_cmp shown_same counts counts' s r (longer (get shown_cmp counts s) field.0) n c e)
      where
        there : get shown_cmp counts r ≡ Some n → (i : ℕ) × (b : BindingId) × (n ≡ suc i) × (get key_cmp found' (r, i) ≡ Some b)
        there k =
            let o = h.last r n k in
            let z = kept r o.0 o.1 o.3 in
            (o.0, z.0, o.2, z.1)

        here : (s ≡ r) × (longer (get shown_cmp counts s) field.0 ≡ n) → (i : ℕ) × (b : BindingId) × (n ≡ suc i) × (get key_cmp found' (r, i) ≡ Some b)
        here k = ⊎_elim
            (λ j. (field.0, new, j, sym (ap (λ y. get key_cmp found' (y, field.0)) k.0) ∙ u.1))
            (λ j. there (sym (ap (get shown_cmp counts) k.0) ∙ j))
            (longer_cases (get shown_cmp counts s) field.0 n k.1)

-- the same of the code's list
pub no_field_more : (bs : List Binding) (i : ℕ) (x : Binding) (found : FieldKey → Option BindingId) (counts : Shown → Option ℕ) → i < length bs → x ≡ get_or bs i x → field_at i x ≡ None → FindsFields (take i bs) found counts → FindsFields (take (i + 1) bs) found counts
no_field_more bs i x found counts lt is none h =
    let long : i ≡ length (take i bs) = sym (length-take-le i bs (omega (arith, lt))) in
    subst (λ xs. FindsFields xs found counts) (sym (take_more bs i x lt ∙ ap (λ y. take i bs ++ y ∷ []) (sym is))) (other_fields (take i bs) x found counts (subst (λ n. field_at n x ≡ None) long none) h)

pub field_more : (bs : List Binding) (i : ℕ) (x : Binding) (s : Shown) (field : TupleIndex) (found found' : BTreeMap FieldKey BindingId) (counts counts' : BTreeMap Shown ℕ) → i < length bs → x ≡ get_or bs i x → field_at i x ≡ Some (s, field)
    → FindsFields (take i bs) (get key_cmp found) (get shown_cmp counts) → Updates shown_cmp counts counts' s (Some (longer (get shown_cmp counts s) field.0)) → Updates key_cmp found found' (s, field.0) (Some (record { 0 = i }))
    → FindsFields (take (i + 1) bs) (get key_cmp found') (get shown_cmp counts')
field_more bs i x s field found found' counts counts' lt is one h c u =
    let long : i ≡ length (take i bs) = sym (length-take-le i bs (omega (arith, lt))) in
    subst (λ xs. FindsFields xs (get key_cmp found') (get shown_cmp counts')) (sym (take_more bs i x lt ∙ ap (λ y. take i bs ++ y ∷ []) (sym is)))
    (one_field (take i bs) x s field found found' counts counts' (subst (λ n. field_at n x ≡ Some (s, field)) long one) h c (subst (λ n. Updates key_cmp found found' (s, field.0) (Some (record { 0 = n }))) long u))
