-- Keys are equal exactly for values that a run takes for equal.
use Rattle.std.proofs.Common.{◌≡◌, ℕ, ℤ, List, [], ◌∷◌, ◌++◌, length, map, Bool, true, false, Ordering, Some, refl, sym, ap, ◌∙◌, arith, append_assoc, append-nil}
use Rattle.std.specs.Prelude.{pos, ◌&&◌, ◌==◌, slice_get}
use Rattle.std.specs.Cmp.Lexicographic.{slice_cmp}
use Rattle.std.specs.declared.cmp.Ordering.TheVariants.{Less, Equal, Greater}
use Rattle.std.specs.Ordering.{int_cmp, is_eq, ordering_then}
use Rattle.std.specs.Str.{bytes_eq}
use Rattle.std.proofs.lemmas.Bool.{and_parts}
use Rattle.std.proofs.lemmas.Bool.Decides.{Decides-eqb, Decides-int_eq}
use Rattle.std.proofs.lemmas.Map.Lookups.{exact_signed}
use Rattle.std.proofs.lemmas.Slice.Eq.{bytes_eq-Decides}
use Rattle.isle_core.specs.Int.{int_types, type_name}
use Rattle.isle_core.specs.SameInRun.{same_in_run, same_fields_in_run}
use Rattle.isle_core.specs.SameValue.{int_place, same_truth}
use Rattle.isle_core.specs.Value.{Value, Truth, Int, Opaque, Variant, Struct, FieldValues, NoField, Field}
use Rattle.isle_core.specs.declared.types.IntType.{IntType}
use Rattle.isle_core.specs.declared.types.IntType.TheVariants as int_type
use Rattle.isle_spelling.specs.Literal.{type_named}
use Rattle.isle_interpreter.specs.Clashes.{name_key, truth_key, value_key, fields_key, place_key, same_key}

-- ---- keys as lists

then_same : (o p : Ordering) → ordering_then o p ≡ Equal → (o ≡ Equal) × (p ≡ Equal)
then_same Less p e = (cc, cc)
then_same Equal p e = (refl, e)
then_same Greater p e = (cc, cc)

equal_so : (o : Ordering) → is_eq o ≡ true → o ≡ Equal
equal_so Less e = absurd cc
equal_so Equal e = refl
equal_so Greater e = absurd cc

lists_equal : (xs ys : List ℤ) → slice_cmp int_cmp xs ys ≡ Equal → xs ≡ ys
lists_equal [] [] e = refl
lists_equal [] (y ∷ ys) e = cc
lists_equal (x ∷ xs) [] e = cc
lists_equal (x ∷ xs) (y ∷ ys) e =
    let parts = then_same (int_cmp x y) (slice_cmp int_cmp xs ys) e in
    ap (λ z. z ∷ xs) (exact_signed x y parts.0) ∙ ap (λ zs. y ∷ zs) (lists_equal xs ys parts.1)

pub key_sound : (k q : List ℤ) → same_key k q ≡ true → k ≡ q
key_sound k q e = lists_equal k q (equal_so (slice_cmp int_cmp k q) e)

number_itself : (x : ℤ) → int_cmp x x ≡ Equal
number_itself x = grind (arith)

pub key_itself : (k : List ℤ) → same_key k k ≡ true
key_itself [] = refl
key_itself (x ∷ k) = ap (λ o. is_eq (ordering_then o (slice_cmp int_cmp k k))) (number_itself x) ∙ key_itself k

-- ---- names

heads : (x y : ℤ) (xs ys : List ℤ) → x ∷ xs ≡ y ∷ ys → (x ≡ y) × (xs ≡ ys)
heads x y xs ys e = (cc, cc)

counts : (n k : ℕ) → pos n ≡ pos k → n ≡ k
counts n k e = cc

bytes_apart : (a b : List ℕ) (xs ys : List ℤ) → length a ≡ length b → map pos a ++ xs ≡ map pos b ++ ys → (a ≡ b) × (xs ≡ ys)
bytes_apart [] [] xs ys l e = (refl, e)
bytes_apart [] (y ∷ b) xs ys l e = absurd cc
bytes_apart (x ∷ a) [] xs ys l e = absurd cc
bytes_apart (x ∷ a) (y ∷ b) xs ys l e =
    let parts = heads (pos x) (pos y) (map pos a ++ xs) (map pos b ++ ys) e in
    let same : x ≡ y = counts x y parts.0 in
    let fewer : length a ≡ length b = cc in
    let rest = bytes_apart a b xs ys fewer parts.1 in
    (ap (λ z. z ∷ a) same ∙ ap (λ zs. y ∷ zs) rest.0, rest.1)

pub names_apart : (a b : List ℕ) (xs ys : List ℤ) → name_key a ++ xs ≡ name_key b ++ ys → (a ≡ b) × (xs ≡ ys)
names_apart a b xs ys e =
    let parts = heads (pos (length a)) (pos (length b)) (map pos a ++ xs) (map pos b ++ ys) e in
    bytes_apart a b xs ys (counts (length a) (length b) parts.0) parts.1

-- ---- integer types

-- the name of an integer type is that of no other one
pub named_again : (ty : IntType) → type_named (type_name ty) ≡ Some ty
named_again int_type.U8 = refl
named_again int_type.U16 = refl
named_again int_type.U32 = refl
named_again int_type.U64 = refl
named_again int_type.U128 = refl
named_again int_type.USize = refl
named_again int_type.I8 = refl
named_again int_type.I16 = refl
named_again int_type.I32 = refl
named_again int_type.I64 = refl
named_again int_type.I128 = refl
named_again int_type.ISize = refl

names_same : (s t : IntType) → type_name s ≡ type_name t → s ≡ t
names_same s t e = let same : Some s ≡ Some t = sym (named_again s) ∙ ap type_named e ∙ named_again t in cc

placed_again : (ty : IntType) → slice_get int_types (int_place ty) ≡ Some ty
placed_again int_type.U8 = refl
placed_again int_type.U16 = refl
placed_again int_type.U32 = refl
placed_again int_type.U64 = refl
placed_again int_type.U128 = refl
placed_again int_type.USize = refl
placed_again int_type.I8 = refl
placed_again int_type.I16 = refl
placed_again int_type.I32 = refl
placed_again int_type.I64 = refl
placed_again int_type.I128 = refl
placed_again int_type.ISize = refl

places_same : (s t : IntType) → (int_place s == int_place t) ≡ true → s ≡ t
places_same s t e =
    let place : int_place s ≡ int_place t = (Decides-eqb (int_place s) (int_place t)).0 e in
    let same : Some s ≡ Some t = sym (placed_again s) ∙ ap (slice_get int_types) place ∙ placed_again t in
    cc

place_itself : (s t : IntType) → s ≡ t → (int_place s == int_place t) ≡ true
place_itself s t e = (Decides-eqb (int_place s) (int_place t)).1 (ap int_place e)

-- ---- values

both : (a b : Bool) → a ≡ true → b ≡ true → (a && b) ≡ true
both true true e f = refl
both true false e f = f
both false b e f = e

truths_same : (a b : Bool) → same_truth a b ≡ true → a ≡ b
truths_same true true e = refl
truths_same false false e = refl
truths_same true false e = cc
truths_same false true e = cc

truth_itself : (a b : Bool) → truth_key a ≡ truth_key b → same_truth a b ≡ true
truth_itself true true e = refl
truth_itself false false e = refl
truth_itself true false e = absurd cc
truth_itself false true e = absurd cc

nested : (a b c d : List ℤ) → ((a ++ b) ++ c) ++ d ≡ a ++ (b ++ (c ++ d))
nested a b c d = append_assoc (a ++ b) c d ∙ append_assoc a b (c ++ d)

-- equal values have one key
mutual
  unfolding same_in_run

  same_keys : (v w : Value) → same_in_run v w ≡ true → value_key v ≡ value_key w
  same_keys (Truth a) (Truth b) e = ap (λ x. pos 0 ∷ truth_key x ∷ []) (truths_same a b e)
  same_keys (Truth a) (Int b t) e = absurd cc
  same_keys (Truth a) (Opaque b k) e = absurd cc
  same_keys (Truth a) (Variant ty b gs) e = absurd cc
  same_keys (Truth a) (Struct ty gs) e = absurd cc
  same_keys (Int a s) (Truth b) e = absurd cc
  same_keys (Int a s) (Int b t) e = let parts = and_parts _ _ e in ap (λ x. pos 1 ∷ s ∷ name_key (type_name x)) (places_same a b parts.0) ∙ ap (λ x. pos 1 ∷ x ∷ name_key (type_name b)) ((Decides-int_eq s t).0 parts.1)
  same_keys (Int a s) (Opaque b k) e = absurd cc
  same_keys (Int a s) (Variant ty b gs) e = absurd cc
  same_keys (Int a s) (Struct ty gs) e = absurd cc
  same_keys (Opaque a n) (Truth b) e = absurd cc
  same_keys (Opaque a n) (Int b t) e = absurd cc
  same_keys (Opaque a n) (Opaque b k) e = ap (λ x. pos 2 ∷ x ∷ []) ((Decides-int_eq n k).0 e)
  same_keys (Opaque a n) (Variant ty b gs) e = absurd cc
  same_keys (Opaque a n) (Struct ty gs) e = absurd cc
  same_keys (Variant of a fs) (Truth b) e = absurd cc
  same_keys (Variant of a fs) (Int b t) e = absurd cc
  same_keys (Variant of a fs) (Opaque b k) e = absurd cc
  same_keys (Variant of a fs) (Variant ty b gs) e =
      let parts = and_parts (bytes_eq of ty && bytes_eq a b) (same_fields_in_run fs gs) e in
      let more = and_parts (bytes_eq of ty) (bytes_eq a b) parts.0 in
      ap (λ x. pos 3 ∷ name_key x ++ name_key a ++ fields_key fs) ((bytes_eq-Decides of ty).0 more.0)
      ∙ ap (λ x. pos 3 ∷ name_key ty ++ name_key x ++ fields_key fs) ((bytes_eq-Decides a b).0 more.1)
      ∙ ap (λ x. pos 3 ∷ name_key ty ++ name_key b ++ x) (same_field_keys fs gs parts.1)
  same_keys (Variant of a fs) (Struct ty gs) e = absurd cc
  same_keys (Struct of fs) (Truth b) e = absurd cc
  same_keys (Struct of fs) (Int b t) e = absurd cc
  same_keys (Struct of fs) (Opaque b k) e = absurd cc
  same_keys (Struct of fs) (Variant ty b gs) e = absurd cc
  same_keys (Struct of fs) (Struct ty gs) e =
      let parts = and_parts _ _ e in
      ap (λ x. pos 4 ∷ name_key x ++ fields_key fs) ((bytes_eq-Decides of ty).0 parts.0)
      ∙ ap (λ x. pos 4 ∷ name_key ty ++ x) (same_field_keys fs gs parts.1)

  same_field_keys : (fs gs : FieldValues) → same_fields_in_run fs gs ≡ true → fields_key fs ≡ fields_key gs
  same_field_keys NoField NoField e = refl
  same_field_keys NoField (Field other w gs) e = absurd cc
  same_field_keys (Field name v fs) NoField e = absurd cc
  same_field_keys (Field name v fs) (Field other w gs) e =
      let parts = and_parts (bytes_eq name other && same_in_run v w) (same_fields_in_run fs gs) e in
      let more = and_parts (bytes_eq name other) (same_in_run v w) parts.0 in
      ap (λ x. pos 6 ∷ name_key x ++ value_key v ++ fields_key fs) ((bytes_eq-Decides name other).0 more.0)
      ∙ ap (λ x. pos 6 ∷ name_key other ++ x ++ fields_key fs) (same_keys v w more.1)
      ∙ ap (λ x. pos 6 ∷ name_key other ++ value_key w ++ x) (same_field_keys fs gs parts.1)

-- and other values another one, whatever stands after
mutual
  unfolding same_in_run

  keys_apart : (v w : Value) (xs ys : List ℤ) → value_key v ++ xs ≡ value_key w ++ ys → (same_in_run v w ≡ true) × (xs ≡ ys)
  keys_apart (Truth a) (Truth b) xs ys e =
      let tail = heads _ _ _ _ (heads _ _ _ _ e).1 in
      (truth_itself a b tail.0, tail.1)
  keys_apart (Truth a) (Int b t) xs ys e = absurd cc
  keys_apart (Truth a) (Opaque b k) xs ys e = absurd cc
  keys_apart (Truth a) (Variant ty b gs) xs ys e = absurd cc
  keys_apart (Truth a) (Struct ty gs) xs ys e = absurd cc
  keys_apart (Int a s) (Truth b) xs ys e = absurd cc
  keys_apart (Int a s) (Int b t) xs ys e =
      let tail = heads _ _ _ _ (heads _ _ _ _ e).1 in
      let named = names_apart (type_name a) (type_name b) xs ys tail.1 in
      (both _ _ (place_itself a b (names_same a b named.0)) ((Decides-int_eq s t).1 tail.0), named.1)
  keys_apart (Int a s) (Opaque b k) xs ys e = absurd cc
  keys_apart (Int a s) (Variant ty b gs) xs ys e = absurd cc
  keys_apart (Int a s) (Struct ty gs) xs ys e = absurd cc
  keys_apart (Opaque a n) (Truth b) xs ys e = absurd cc
  keys_apart (Opaque a n) (Int b t) xs ys e = absurd cc
  keys_apart (Opaque a n) (Opaque b k) xs ys e =
      let tail = heads _ _ _ _ (heads _ _ _ _ e).1 in
      ((Decides-int_eq n k).1 tail.0, tail.1)
  keys_apart (Opaque a n) (Variant ty b gs) xs ys e = absurd cc
  keys_apart (Opaque a n) (Struct ty gs) xs ys e = absurd cc
  keys_apart (Variant of a fs) (Truth b) xs ys e = absurd cc
  keys_apart (Variant of a fs) (Int b t) xs ys e = absurd cc
  keys_apart (Variant of a fs) (Opaque b k) xs ys e = absurd cc
  keys_apart (Variant of a fs) (Variant ty b gs) xs ys e =
      let tail = (heads _ _ _ _ e).1 in
      let named = names_apart of ty (name_key a ++ (fields_key fs ++ xs)) (name_key b ++ (fields_key gs ++ ys)) (sym (nested (name_key of) (name_key a) (fields_key fs) xs) ∙ tail ∙ nested (name_key ty) (name_key b) (fields_key gs) ys) in
      let next = names_apart a b (fields_key fs ++ xs) (fields_key gs ++ ys) named.1 in
      let rest = field_keys_apart fs gs xs ys next.1 in
      (both (bytes_eq of ty && bytes_eq a b) (same_fields_in_run fs gs) (both (bytes_eq of ty) (bytes_eq a b) ((bytes_eq-Decides of ty).1 named.0) ((bytes_eq-Decides a b).1 next.0)) rest.0, rest.1)
  keys_apart (Variant of a fs) (Struct ty gs) xs ys e = absurd cc
  keys_apart (Struct of fs) (Truth b) xs ys e = absurd cc
  keys_apart (Struct of fs) (Int b t) xs ys e = absurd cc
  keys_apart (Struct of fs) (Opaque b k) xs ys e = absurd cc
  keys_apart (Struct of fs) (Variant ty b gs) xs ys e = absurd cc
  keys_apart (Struct of fs) (Struct ty gs) xs ys e =
      let tail = (heads _ _ _ _ e).1 in
      let named = names_apart of ty (fields_key fs ++ xs) (fields_key gs ++ ys) (sym (append_assoc (name_key of) (fields_key fs) xs) ∙ tail ∙ append_assoc (name_key ty) (fields_key gs) ys) in
      let rest = field_keys_apart fs gs xs ys named.1 in
      (both _ _ ((bytes_eq-Decides of ty).1 named.0) rest.0, rest.1)

  field_keys_apart : (fs gs : FieldValues) (xs ys : List ℤ) → fields_key fs ++ xs ≡ fields_key gs ++ ys → (same_fields_in_run fs gs ≡ true) × (xs ≡ ys)
  field_keys_apart NoField NoField xs ys e = (refl, (heads _ _ _ _ e).1)
  field_keys_apart NoField (Field other w gs) xs ys e = absurd cc
  field_keys_apart (Field name v fs) NoField xs ys e = absurd cc
  field_keys_apart (Field name v fs) (Field other w gs) xs ys e =
      let tail = (heads _ _ _ _ e).1 in
      let named = names_apart name other (value_key v ++ (fields_key fs ++ xs)) (value_key w ++ (fields_key gs ++ ys)) (sym (nested (name_key name) (value_key v) (fields_key fs) xs) ∙ tail ∙ nested (name_key other) (value_key w) (fields_key gs) ys) in
      let next = keys_apart v w (fields_key fs ++ xs) (fields_key gs ++ ys) named.1 in
      let rest = field_keys_apart fs gs xs ys next.1 in
      (both (bytes_eq name other && same_in_run v w) (same_fields_in_run fs gs) (both (bytes_eq name other) (same_in_run v w) ((bytes_eq-Decides name other).1 named.0) next.0) rest.0, rest.1)

-- ---- values at places

-- one type and equal values
pub same_places : (ty : List ℕ) (v w : Value) → same_in_run v w ≡ true → same_key (place_key ty v) (place_key ty w) ≡ true
same_places ty v w e = ap (λ k. same_key (place_key ty v) (name_key ty ++ k)) (sym (same_keys v w e)) ∙ key_itself (place_key ty v)

-- equal keys
pub places_apart : (s t : List ℕ) (v w : Value) → same_key (place_key s v) (place_key t w) ≡ true → (s ≡ t) × (same_in_run v w ≡ true)
places_apart s t v w e =
    let named = names_apart s t (value_key v) (value_key w) (key_sound (place_key s v) (place_key t w) e) in
    let same = keys_apart v w [] [] (append-nil (value_key v) ∙ named.1 ∙ sym (append-nil (value_key w))) in
    (named.0, same.0)
