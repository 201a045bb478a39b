-- Keys are told by their order, and by their paths if their parts are there.
use Rattle.std.proofs.Common.{◌≡◌, ℕ, ℤ, List, [], ◌∷◌, Bool, true, false, refl, ap, ◌∙◌, arith, Ordering}
use Rattle.std.specs.List.{AllByRecursion}
use Rattle.std.specs.declared.cmp.Ordering.TheVariants.{Less, Equal, Greater}
use Rattle.std.specs.Ordering.{is_eq, ordering_then, nat_cmp, int_cmp, bool_cmp}
use Rattle.std.proofs.lemmas.Map.Lookups.{exact_unsigned, exact_signed}
use Rattle.isle_core.specs.declared.BindingId.{BindingId}
use Rattle.isle_core.specs.declared.Sym.{Sym}
use Rattle.isle_core.specs.declared.TermId.{TermId}
use Rattle.isle_core.specs.declared.TupleIndex.{TupleIndex}
use Rattle.isle_core.specs.declared.TypeId.{TypeId}
use Rattle.isle_core.specs.declared.VariantId.{VariantId}
use Rattle.isle_core.specs.Path.{Path, Paths, Extracted, Called, Chosen, MadeVariant, MadeStruct, VariantField, StructField, Inner, Part, at, at_all}
use Rattle.isle_core.specs.StandsFor.{EachOnce}
use Rattle.isle_rulesets.specs.declared.keys.Key.{Key}
use Rattle.isle_rulesets.specs.declared.keys.Key.TheVariants as key
use Rattle.isle_rulesets.specs.Parts.{parts_cmp}
use Rattle.isle_rulesets.specs.Keys.{key_cmp, key_path, IsThere, HasParts}
use Rattle.isle_rulesets.specs.Numbering.{Extends, IsCallUpTo}
use Rattle.isle_rulesets.proofs.PlacedPaths.{there_kept, all_there_kept, at_same, all_at_same, there_once, all_there_once}

-- ---- equal in their order

bool_same : (a b : Bool) → bool_cmp a b ≡ Equal → a ≡ b
bool_same true true e = refl
bool_same false false e = refl
bool_same true false e = cc
bool_same false true e = cc

then_same : (o p : Ordering) → ordering_then o p ≡ Equal → (o ≡ Equal) × (p ≡ Equal)
then_same Less p e = (cc, cc)
then_same Equal p e = (refl, e)
then_same Greater p e = (cc, cc)

const_same : (s t : TypeId) (a b : ℤ) → ordering_then (nat_cmp s.0 t.0) (int_cmp a b) ≡ Equal → key.ConstInt s a ≡ key.ConstInt t b
const_same s t a b e =
    let h = then_same (nat_cmp s.0 t.0) (int_cmp a b) e in
    let ty : s ≡ t = ap (λ n. record { 0 = n }) (exact_unsigned s.0 t.0 h.0) in
    ap (λ x. key.ConstInt x a) ty ∙ ap (key.ConstInt t) (exact_signed a b h.1)

name_same : (s t : Sym) → nat_cmp s.0 t.0 ≡ Equal → s ≡ t
name_same s t e = ap (λ n. record { 0 = n }) (exact_unsigned s.0 t.0 e)

number_same : (a b : BindingId) → nat_cmp a.0 b.0 ≡ Equal → a ≡ b
number_same a b e = ap (λ n. record { 0 = n }) (exact_unsigned a.0 b.0 e)

type_same : (a b : TypeId) → nat_cmp a.0 b.0 ≡ Equal → a ≡ b
type_same a b e = ap (λ n. record { 0 = n }) (exact_unsigned a.0 b.0 e)

variant_same : (a b : VariantId) → nat_cmp a.0 b.0 ≡ Equal → a ≡ b
variant_same a b e = ap (λ n. record { 0 = n }) (exact_unsigned a.0 b.0 e)

field_same : (a b : TupleIndex) → nat_cmp a.0 b.0 ≡ Equal → a ≡ b
field_same a b e = ap (λ n. record { 0 = n }) (exact_unsigned a.0 b.0 e)

parts_same : (xs ys : List BindingId) → parts_cmp xs ys ≡ Equal → xs ≡ ys
parts_same [] [] e = refl
parts_same [] (y ∷ ys) e = cc
parts_same (x ∷ xs) [] e = cc
parts_same (x ∷ xs) (y ∷ ys) e =
    let h = then_same (nat_cmp x.0 y.0) (parts_cmp xs ys) e in
    ap (λ z. z ∷ xs) (number_same x y h.0) ∙ ap (λ zs. y ∷ zs) (parts_same xs ys h.1)

match_same : (a b : BindingId) (v w : VariantId) (i j : TupleIndex) → ordering_then (nat_cmp a.0 b.0) (ordering_then (nat_cmp v.0 w.0) (nat_cmp i.0 j.0)) ≡ Equal → key.MatchVariant a v i ≡ key.MatchVariant b w j
match_same a b v w i j e =
    let h = then_same (nat_cmp a.0 b.0) (ordering_then (nat_cmp v.0 w.0) (nat_cmp i.0 j.0)) e in
    let k = then_same (nat_cmp v.0 w.0) (nat_cmp i.0 j.0) h.1 in
    ap (λ x. key.MatchVariant x v i) (number_same a b h.0) ∙ ap (λ x. key.MatchVariant b x i) (variant_same v w k.0) ∙ ap (key.MatchVariant b w) (field_same i j k.1)

extract_same : (a b : BindingId) (i j : TupleIndex) → ordering_then (nat_cmp a.0 b.0) (nat_cmp i.0 j.0) ≡ Equal → key.ExtractStruct a i ≡ key.ExtractStruct b j
extract_same a b i j e =
    let h = then_same (nat_cmp a.0 b.0) (nat_cmp i.0 j.0) e in
    ap (λ x. key.ExtractStruct x i) (number_same a b h.0) ∙ ap (key.ExtractStruct b) (field_same i j h.1)

extractor_same : (s t : TermId) (a b : BindingId) → ordering_then (nat_cmp s.0 t.0) (nat_cmp a.0 b.0) ≡ Equal → key.Extractor s a ≡ key.Extractor t b
extractor_same s t a b e =
    let h = then_same (nat_cmp s.0 t.0) (nat_cmp a.0 b.0) e in
    ap (λ x. key.Extractor x a) (ap (λ n. record { 0 = n }) (exact_unsigned s.0 t.0 h.0)) ∙ ap (key.Extractor t) (number_same a b h.1)

constructor_same : (s t : TermId) (xs ys : List BindingId) → ordering_then (nat_cmp s.0 t.0) (parts_cmp xs ys) ≡ Equal → key.Constructor s xs ≡ key.Constructor t ys
constructor_same s t xs ys e =
    let h = then_same (nat_cmp s.0 t.0) (parts_cmp xs ys) e in
    ap (λ x. key.Constructor x xs) (ap (λ n. record { 0 = n }) (exact_unsigned s.0 t.0 h.0)) ∙ ap (key.Constructor t) (parts_same xs ys h.1)

tuple_same : (a b : BindingId) (i j : TupleIndex) → ordering_then (nat_cmp a.0 b.0) (nat_cmp i.0 j.0) ≡ Equal → key.MatchTuple a i ≡ key.MatchTuple b j
tuple_same a b i j e =
    let h = then_same (nat_cmp a.0 b.0) (nat_cmp i.0 j.0) e in
    ap (λ x. key.MatchTuple x i) (number_same a b h.0) ∙ ap (key.MatchTuple b) (field_same i j h.1)

variant_key_same : (s t : TypeId) (v w : VariantId) (xs ys : List BindingId) → ordering_then (nat_cmp s.0 t.0) (ordering_then (nat_cmp v.0 w.0) (parts_cmp xs ys)) ≡ Equal → key.MakeVariant s v xs ≡ key.MakeVariant t w ys
variant_key_same s t v w xs ys e =
    let h = then_same (nat_cmp s.0 t.0) (ordering_then (nat_cmp v.0 w.0) (parts_cmp xs ys)) e in
    let k = then_same (nat_cmp v.0 w.0) (parts_cmp xs ys) h.1 in
    ap (λ x. key.MakeVariant x v xs) (type_same s t h.0) ∙ ap (λ x. key.MakeVariant t x xs) (variant_same v w k.0) ∙ ap (key.MakeVariant t w) (parts_same xs ys k.1)

struct_key_same : (s t : TypeId) (xs ys : List BindingId) → ordering_then (nat_cmp s.0 t.0) (parts_cmp xs ys) ≡ Equal → key.MakeStruct s xs ≡ key.MakeStruct t ys
struct_key_same s t xs ys e =
    let h = then_same (nat_cmp s.0 t.0) (parts_cmp xs ys) e in
    ap (λ x. key.MakeStruct x xs) (type_same s t h.0) ∙ ap (key.MakeStruct t) (parts_same xs ys h.1)

key_equal : (k q : Key) → key_cmp k q ≡ Equal → k ≡ q
key_equal (key.Argument a) (key.Argument b) e = ap key.Argument (exact_unsigned a b e)
key_equal (key.ConstBool a) (key.ConstBool b) e = ap key.ConstBool (bool_same a b e)
key_equal (key.ConstInt s a) (key.ConstInt t b) e = const_same s t a b e
key_equal (key.ConstPrim s) (key.ConstPrim t) e = ap key.ConstPrim (name_same s t e)
key_equal (key.Extractor s a) (key.Extractor t b) e = extractor_same s t a b e
key_equal (key.Constructor s xs) (key.Constructor t ys) e = constructor_same s t xs ys e
key_equal (key.MatchVariant a v i) (key.MatchVariant b w j) e = match_same a b v w i j e
key_equal (key.ExtractStruct a i) (key.ExtractStruct b j) e = extract_same a b i j e
key_equal (key.MakeVariant s v xs) (key.MakeVariant t w ys) e = variant_key_same s t v w xs ys e
key_equal (key.MakeStruct s xs) (key.MakeStruct t ys) e = struct_key_same s t xs ys e
key_equal (key.Iterator a) (key.Iterator b) e = ap key.Iterator (number_same a b e)
key_equal (key.MatchSome a) (key.MatchSome b) e = ap key.MatchSome (number_same a b e)
key_equal (key.MatchTuple a i) (key.MatchTuple b j) e = tuple_same a b i j e
key_equal k q e = cc

eq_same : (o : Ordering) → is_eq o ≡ true → o ≡ Equal
eq_same Less e = cc
eq_same Equal e = refl
eq_same Greater e = cc

-- keys that compare as equal are one
pub key_same : (k q : Key) → is_eq (key_cmp k q) ≡ true → k ≡ q
key_same k q e = key_equal k q (eq_same (key_cmp k q) e)

-- ---- of equal paths

tuple_index_same : (i j : TupleIndex) → i.0 ≡ j.0 → i ≡ j
tuple_index_same i j e = ap (λ n. record { 0 = n }) e

match_path_same : (ps : List Path) (a b : BindingId) (v w : VariantId) (i j : TupleIndex) → EachOnce ps → IsThere ps a → IsThere ps b → VariantField v i.0 (at ps a) ≡ VariantField w j.0 (at ps b) → key.MatchVariant a v i ≡ key.MatchVariant b w j
match_path_same ps a b v w i j once h k e =
    let source : a ≡ b = there_once ps a b once h k (inner (at ps a) (at ps b) i.0 j.0 e) in
    let field : i ≡ j = tuple_index_same i j (place (at ps a) (at ps b) i.0 j.0 e) in
    ap (λ x. key.MatchVariant x v i) source ∙ ap (λ x. key.MatchVariant b x i) (variant (at ps a) (at ps b) i.0 j.0 e) ∙ ap (key.MatchVariant b w) field
  where
    inner : (p q : Path) (m n : ℕ) → VariantField v m p ≡ VariantField w n q → p ≡ q
    inner p q m n f = cc

    place : (p q : Path) (m n : ℕ) → VariantField v m p ≡ VariantField w n q → m ≡ n
    place p q m n f = cc

    variant : (p q : Path) (m n : ℕ) → VariantField v m p ≡ VariantField w n q → v ≡ w
    variant p q m n f = cc

extract_path_same : (ps : List Path) (a b : BindingId) (i j : TupleIndex) → EachOnce ps → IsThere ps a → IsThere ps b → StructField i.0 (at ps a) ≡ StructField j.0 (at ps b) → key.ExtractStruct a i ≡ key.ExtractStruct b j
extract_path_same ps a b i j once h k e =
    let source : a ≡ b = there_once ps a b once h k (inner (at ps a) (at ps b) i.0 j.0 e) in
    let field : i ≡ j = tuple_index_same i j (place (at ps a) (at ps b) i.0 j.0 e) in
    ap (λ x. key.ExtractStruct x i) source ∙ ap (key.ExtractStruct b) field
  where
    inner : (p q : Path) (m n : ℕ) → StructField m p ≡ StructField n q → p ≡ q
    inner p q m n f = cc

    place : (p q : Path) (m n : ℕ) → StructField m p ≡ StructField n q → m ≡ n
    place p q m n f = cc

extractor_path_same : (ps : List Path) (s t : TermId) (a b : BindingId) → EachOnce ps → IsThere ps a → IsThere ps b → Extracted s (at ps a) ≡ Extracted t (at ps b) → key.Extractor s a ≡ key.Extractor t b
extractor_path_same ps s t a b once h k e = ap (λ x. key.Extractor x a) (term (at ps a) (at ps b) e) ∙ ap (key.Extractor t) (there_once ps a b once h k (inner (at ps a) (at ps b) e))
  where
    inner : (p q : Path) → Extracted s p ≡ Extracted t q → p ≡ q
    inner p q f = cc

    term : (p q : Path) → Extracted s p ≡ Extracted t q → s ≡ t
    term p q f = cc

constructor_path_same : (ps : List Path) (s t : TermId) (xs ys : List BindingId) → EachOnce ps → AllByRecursion (IsThere ps) xs → AllByRecursion (IsThere ps) ys → Called s (at_all ps xs) 0 ≡ Called t (at_all ps ys) 0 → key.Constructor s xs ≡ key.Constructor t ys
constructor_path_same ps s t xs ys once h k e =
    ap (λ x. key.Constructor x xs) (term (at_all ps xs) (at_all ps ys) e) ∙ ap (key.Constructor t) (all_there_once ps xs ys once h k (inner (at_all ps xs) (at_all ps ys) e))
  where
    inner : (qs rs : Paths) → Called s qs 0 ≡ Called t rs 0 → qs ≡ rs
    inner qs rs f = cc

    term : (qs rs : Paths) → Called s qs 0 ≡ Called t rs 0 → s ≡ t
    term qs rs f = cc

item_path_same : (ps : List Path) (a b : BindingId) → EachOnce ps → IsThere ps a → IsThere ps b → Chosen (at ps a) ≡ Chosen (at ps b) → key.Iterator a ≡ key.Iterator b
item_path_same ps a b once h k e = ap key.Iterator (there_once ps a b once h k (inner (at ps a) (at ps b) e))
  where
    inner : (p q : Path) → Chosen p ≡ Chosen q → p ≡ q
    inner p q f = cc

some_path_same : (ps : List Path) (a b : BindingId) → EachOnce ps → IsThere ps a → IsThere ps b → Inner (at ps a) ≡ Inner (at ps b) → key.MatchSome a ≡ key.MatchSome b
some_path_same ps a b once h k e = ap key.MatchSome (there_once ps a b once h k (inner (at ps a) (at ps b) e))
  where
    inner : (p q : Path) → Inner p ≡ Inner q → p ≡ q
    inner p q f = cc

tuple_path_same : (ps : List Path) (a b : BindingId) (i j : TupleIndex) → EachOnce ps → IsThere ps a → IsThere ps b → Part i.0 (at ps a) ≡ Part j.0 (at ps b) → key.MatchTuple a i ≡ key.MatchTuple b j
tuple_path_same ps a b i j once h k e =
    let source : a ≡ b = there_once ps a b once h k (inner (at ps a) (at ps b) i.0 j.0 e) in
    let field : i ≡ j = tuple_index_same i j (place (at ps a) (at ps b) i.0 j.0 e) in
    ap (λ x. key.MatchTuple x i) source ∙ ap (key.MatchTuple b) field
  where
    inner : (p q : Path) (m n : ℕ) → Part m p ≡ Part n q → p ≡ q
    inner p q m n f = cc

    place : (p q : Path) (m n : ℕ) → Part m p ≡ Part n q → m ≡ n
    place p q m n f = cc

variant_path_same : (ps : List Path) (s t : TypeId) (v w : VariantId) (xs ys : List BindingId) → EachOnce ps → AllByRecursion (IsThere ps) xs → AllByRecursion (IsThere ps) ys → MadeVariant s v (at_all ps xs) ≡ MadeVariant t w (at_all ps ys) → key.MakeVariant s v xs ≡ key.MakeVariant t w ys
variant_path_same ps s t v w xs ys once h k e =
    let fields : xs ≡ ys = all_there_once ps xs ys once h k (inner (at_all ps xs) (at_all ps ys) e) in
    ap (λ x. key.MakeVariant x v xs) (ty (at_all ps xs) (at_all ps ys) e) ∙ ap (λ x. key.MakeVariant t x xs) (variant (at_all ps xs) (at_all ps ys) e) ∙ ap (key.MakeVariant t w) fields
  where
    inner : (qs rs : Paths) → MadeVariant s v qs ≡ MadeVariant t w rs → qs ≡ rs
    inner qs rs f = cc

    ty : (qs rs : Paths) → MadeVariant s v qs ≡ MadeVariant t w rs → s ≡ t
    ty qs rs f = cc

    variant : (qs rs : Paths) → MadeVariant s v qs ≡ MadeVariant t w rs → v ≡ w
    variant qs rs f = cc

struct_path_same : (ps : List Path) (s t : TypeId) (xs ys : List BindingId) → EachOnce ps → AllByRecursion (IsThere ps) xs → AllByRecursion (IsThere ps) ys → MadeStruct s (at_all ps xs) ≡ MadeStruct t (at_all ps ys) → key.MakeStruct s xs ≡ key.MakeStruct t ys
struct_path_same ps s t xs ys once h k e =
    let fields : xs ≡ ys = all_there_once ps xs ys once h k (inner (at_all ps xs) (at_all ps ys) e) in
    ap (λ x. key.MakeStruct x xs) (ty (at_all ps xs) (at_all ps ys) e) ∙ ap (key.MakeStruct t) fields
  where
    inner : (qs rs : Paths) → MadeStruct s qs ≡ MadeStruct t rs → qs ≡ rs
    inner qs rs f = cc

    ty : (qs rs : Paths) → MadeStruct s qs ≡ MadeStruct t rs → s ≡ t
    ty qs rs f = cc

-- keys of one path are one, where their parts are there and no path stands twice
pub path_same : (ps : List Path) (k q : Key) → EachOnce ps → HasParts ps k → HasParts ps q → key_path ps k ≡ key_path ps q → k ≡ q
path_same ps (key.Argument a) (key.Argument b) once h g e = cc
path_same ps (key.ConstBool a) (key.ConstBool b) once h g e = cc
path_same ps (key.ConstInt s a) (key.ConstInt t b) once h g e = cc
path_same ps (key.ConstPrim s) (key.ConstPrim t) once h g e = cc
path_same ps (key.Extractor s a) (key.Extractor t b) once h g e = extractor_path_same ps s t a b once h g e
path_same ps (key.Constructor s xs) (key.Constructor t ys) once h g e = constructor_path_same ps s t xs ys once h g e
path_same ps (key.MatchVariant a v i) (key.MatchVariant b w j) once h g e = match_path_same ps a b v w i j once h g e
path_same ps (key.ExtractStruct a i) (key.ExtractStruct b j) once h g e = extract_path_same ps a b i j once h g e
path_same ps (key.MakeVariant s v xs) (key.MakeVariant t w ys) once h g e = variant_path_same ps s t v w xs ys once h g e
path_same ps (key.MakeStruct s xs) (key.MakeStruct t ys) once h g e = struct_path_same ps s t xs ys once h g e
path_same ps (key.Iterator a) (key.Iterator b) once h g e = item_path_same ps a b once h g e
path_same ps (key.MatchSome a) (key.MatchSome b) once h g e = some_path_same ps a b once h g e
path_same ps (key.MatchTuple a i) (key.MatchTuple b j) once h g e = tuple_path_same ps a b i j once h g e
path_same ps k q once h g e = cc

-- ---- after more paths

pub parts_kept : (ps qs : List Path) (k : Key) → Extends ps qs → HasParts ps k → HasParts qs k
parts_kept ps qs (key.Argument a) x h = tt
parts_kept ps qs (key.ConstBool a) x h = tt
parts_kept ps qs (key.ConstInt s a) x h = tt
parts_kept ps qs (key.ConstPrim s) x h = tt
parts_kept ps qs (key.Extractor s a) x h = there_kept ps qs a x h
parts_kept ps qs (key.Constructor s xs) x h = all_there_kept ps qs xs x h
parts_kept ps qs (key.MatchVariant a v i) x h = there_kept ps qs a x h
parts_kept ps qs (key.ExtractStruct a i) x h = there_kept ps qs a x h
parts_kept ps qs (key.MakeVariant s v xs) x h = all_there_kept ps qs xs x h
parts_kept ps qs (key.MakeStruct s xs) x h = all_there_kept ps qs xs x h
parts_kept ps qs (key.Iterator a) x h = there_kept ps qs a x h
parts_kept ps qs (key.MatchSome a) x h = there_kept ps qs a x h
parts_kept ps qs (key.MatchTuple a i) x h = there_kept ps qs a x h

-- the path of a key stays
pub path_kept : (ps qs : List Path) (k : Key) → Extends ps qs → HasParts ps k → key_path qs k ≡ key_path ps k
path_kept ps qs (key.Argument a) x h = refl
path_kept ps qs (key.ConstBool a) x h = refl
path_kept ps qs (key.ConstInt s a) x h = refl
path_kept ps qs (key.ConstPrim s) x h = refl
path_kept ps qs (key.Extractor s a) x h = ap (Extracted s) (at_same ps qs a x h)
path_kept ps qs (key.Constructor s xs) x h = ap (λ rs. Called s rs 0) (all_at_same ps qs xs x h)
path_kept ps qs (key.MatchVariant a v i) x h = ap (VariantField v i.0) (at_same ps qs a x h)
path_kept ps qs (key.ExtractStruct a i) x h = ap (StructField i.0) (at_same ps qs a x h)
path_kept ps qs (key.MakeVariant s v xs) x h = ap (MadeVariant s v) (all_at_same ps qs xs x h)
path_kept ps qs (key.MakeStruct s xs) x h = ap (MadeStruct s) (all_at_same ps qs xs x h)
path_kept ps qs (key.Iterator a) x h = ap Chosen (at_same ps qs a x h)
path_kept ps qs (key.MatchSome a) x h = ap Inner (at_same ps qs a x h)
path_kept ps qs (key.MatchTuple a i) x h = ap (Part i.0) (at_same ps qs a x h)

-- no key has the path of an impure call
pub not_called : (ps : List Path) (n : ℕ) (k : Key) → IsCallUpTo n (key_path ps k) → ⊥
not_called ps n (key.Argument a) h = h
not_called ps n (key.ConstBool a) h = h
not_called ps n (key.ConstInt s a) h = h
not_called ps n (key.ConstPrim s) h = h
not_called ps n (key.Extractor s a) h = h
not_called ps n (key.Constructor s xs) h = let low = h.0 in omega arith
not_called ps n (key.MatchVariant a v i) h = h
not_called ps n (key.ExtractStruct a i) h = h
not_called ps n (key.MakeVariant s v xs) h = h
not_called ps n (key.MakeStruct s xs) h = h
not_called ps n (key.Iterator a) h = h
not_called ps n (key.MatchSome a) h = h
not_called ps n (key.MatchTuple a i) h = h
