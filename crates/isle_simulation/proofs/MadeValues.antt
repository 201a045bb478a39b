-- Values of a form: their type, their fields, and the names of those.
use Rattle.std.proofs.Common.{◌≡◌, ℕ, zero, suc, List, [], ◌∷◌, Bool, true, false, cond, ◌&&◌, Option, Some, None, refl, sym, ap, ◌∙◌, subst}
use Rattle.std.specs.Prelude.{IsSomeAnd, find, option_and_then, option_map, slice_get}
use Rattle.std.specs.Str.{bytes_eq}
use Rattle.std.proofs.lemmas.Slice.Eq.{bytes_eq-Decides}
use Rattle.isle_core.specs.declared.Sym.{Sym}
use Rattle.isle_core.specs.declared.TypeId.{TypeId}
use Rattle.isle_core.specs.declared.VariantId.{VariantId}
use Rattle.isle_core.specs.declared.types.TypeDef.{TypeDef}
use Rattle.isle_core.specs.declared.types.TypeDef.TheVariants as def
use Rattle.isle_core.specs.declared.types.Variant.{Variant as VariantDef}
use Rattle.isle_core.specs.Form.{Form, form_of_variant, variant_form, struct_form, form, form_name, value_named, is_named, values_of, parts}
use Rattle.isle_core.specs.HasType.{typed_fields, variant_fields, struct_fields, IsOfDef, AreFieldsOf, HasType}
use Rattle.isle_core.specs.Making.{Making, MakesVariant, MakesStruct, MakesNothing}
use Rattle.isle_core.specs.Nameless.{nameless, nameless_fields}
use Rattle.isle_core.specs.PatternType.{AreVariantsApart, IsOfMaking}
use Rattle.isle_core.specs.Rule.{Environment}
use Rattle.isle_core.specs.Terms.{sym_text}
use Rattle.isle_core.specs.Value.{Value, Truth, Int, Opaque, Variant, Struct, FieldValues, NoField, Field}
use Rattle.isle_core.proofs.OptionLaws.{some_same}
use Rattle.isle_printer.specs.Bytes.{same_bytes}
use Rattle.isle_printer.proofs.Bytes.{same_bytes_refl, same_bytes_sound}
use Rattle.isle_tree.specs.Run.{field_of}

-- ---- the fields of a value

-- those of a variant or a struct; other values have none
abbrev pub fields_in : Value → FieldValues
fields_in (Variant ty name fs) = fs
fields_in (Struct ty fs) = fs
fields_in (Truth b) = NoField
fields_in (Int ty n) = NoField
fields_in (Opaque ty n) = NoField

pub parts_are : (v : Value) → parts v ≡ values_of (fields_in v)
parts_are (Variant ty name fs) = refl
parts_are (Struct ty fs) = refl
parts_are (Truth b) = refl
parts_are (Int ty n) = refl
parts_are (Opaque ty n) = refl

pub fields_nameless : (v : Value) → fields_in (nameless v) ≡ nameless_fields (fields_in v)
unfolding nameless
fields_nameless (Variant ty name fs) = refl
fields_nameless (Struct ty fs) = refl
fields_nameless (Truth b) = refl
fields_nameless (Int ty n) = refl
fields_nameless (Opaque ty n) = refl

both_true : (a b : Bool) → (a && b) ≡ true → (a ≡ true) × (b ≡ true)
both_true true true e = (refl, refl)
both_true true false e = cc
both_true false b e = cc

same_text : (a b : List ℕ) → bytes_eq a b ≡ true → a ≡ b
same_text a b e = (bytes_eq-Decides a b).0 e

self_text : (a : List ℕ) → bytes_eq a a ≡ true
self_text a = (bytes_eq-Decides a a).1 refl

-- a value of these names is made of its fields
pub named_value : (env : Environment) (ty : Sym) (variant : Option Sym) (v : Value) → is_named env ty variant v ≡ true → v ≡ value_named env ty variant (fields_in v)
named_value env ty (Some variant) (Variant of name fs) e =
    let both = both_true (bytes_eq of (sym_text env ty)) (bytes_eq name (sym_text env variant)) e in
    ap (λ x. Variant x name fs) (same_text of (sym_text env ty) both.0) ∙ ap (λ x. Variant (sym_text env ty) x fs) (same_text name (sym_text env variant) both.1)
named_value env ty None (Struct of fs) e = ap (λ x. Struct x fs) (same_text of (sym_text env ty) e)
named_value env ty (Some variant) (Struct of fs) e = cc
named_value env ty None (Variant of name fs) e = cc
named_value env ty (Some variant) (Truth b) e = cc
named_value env ty (Some variant) (Int of n) e = cc
named_value env ty (Some variant) (Opaque of n) e = cc
named_value env ty None (Truth b) e = cc
named_value env ty None (Int of n) e = cc
named_value env ty None (Opaque of n) e = cc

-- names stay
pub named_nameless : (env : Environment) (ty : Sym) (variant : Option Sym) (v : Value) → is_named env ty variant (nameless v) ≡ is_named env ty variant v
unfolding nameless
named_nameless env ty (Some variant) (Variant of name fs) = refl
named_nameless env ty (Some variant) (Struct of fs) = refl
named_nameless env ty (Some variant) (Truth b) = refl
named_nameless env ty (Some variant) (Int of n) = refl
named_nameless env ty (Some variant) (Opaque of n) = refl
named_nameless env ty None (Variant of name fs) = refl
named_nameless env ty None (Struct of fs) = refl
named_nameless env ty None (Truth b) = refl
named_nameless env ty None (Int of n) = refl
named_nameless env ty None (Opaque of n) = refl

pub nameless_named : (env : Environment) (ty : Sym) (variant : Option Sym) (fs : FieldValues) → nameless (value_named env ty variant fs) ≡ value_named env ty variant (nameless_fields fs)
unfolding nameless
nameless_named env ty (Some variant) fs = refl
nameless_named env ty None fs = refl

-- ---- the first of a name

suc_same : (n m : ℕ) → suc n ≡ suc m → n ≡ m
suc_same n m e = cc

-- what passes a test at one place alone is found first
first_found : {A : Type 0} (p : A → Bool) (xs : List A) (k : ℕ) (x : A) → slice_get xs k ≡ Some x → p x ≡ true → ((j : ℕ) (y : A) → slice_get xs j ≡ Some y → p y ≡ true → j ≡ k) → find p xs ≡ Some x
first_found p [] k x e h once = cc
first_found p (y ∷ xs) zero x e h once = ap (λ b. cond b (Some y) (find p xs)) (ap p (some_same y x e) ∙ h) ∙ e
first_found p (y ∷ xs) (suc k) x e h once = later (p y) refl (first_found p xs k x e h (λ j z f g. suc_same j k (once (suc j) z f g)))
  where
    later : (b : Bool) → p y ≡ b → find p xs ≡ Some x → cond b (Some y) (find p xs) ≡ Some x
    later true is rest = let bad : 0 ≡ suc k = once 0 y refl is in cc
    later false is rest = rest

name_at : (env : Environment) (ty : TypeId) (d : TypeDef) (name : Sym) (variants : List VariantDef) (variant : VariantId) (w : VariantDef) → slice_get env.types.types ty.0 ≡ Some d
    → variant_form variant d ≡ option_map (form_of_variant name) (slice_get variants variant.0) → slice_get variants variant.0 ≡ Some w → option_map (form_name env) (form env (MakesVariant ty variant)) ≡ Some (sym_text env name, Some (sym_text env w.name))
name_at env ty d name variants variant w e f k = ap (λ o. option_map (form_name env) (option_and_then (variant_form variant) o)) e ∙ ap (option_map (form_name env)) f ∙ ap (λ o. option_map (form_name env) (option_map (form_of_variant name) o)) k

id_place : (i : ℕ) (v : VariantId) → record { 0 = i } ≡ v → i ≡ v.0
id_place i v e = ap (λ (x : VariantId). x.0) e

-- ---- the fields of a form

-- the fields that a definition gives what has these names
abbrev named_fields : Environment → TypeDef → Sym → Option Sym → Option (List (List ℕ × TypeId))
named_fields env d ty (Some variant) = variant_fields env d (sym_text env ty) (sym_text env variant)
named_fields env d ty None = struct_fields env d (sym_text env ty)

-- the definition of the type gives it the form's
record IsFormOf (env : Environment) (ty : TypeId) (f : Form) : Type 0 where
  d : TypeDef
  there : slice_get env.types.types ty.0 ≡ Some d
  given : named_fields env d f.ty f.variant ≡ Some (typed_fields env f.fields)

module _ (env : Environment) (apart : AreVariantsApart env) (ty : TypeId) (variant : VariantId) where
  first_is : (name : Sym) (is_extern is_nodebug : Bool) (variants : List VariantDef) (place : _) (w : VariantDef) → slice_get env.types.types ty.0 ≡ Some (def.Enum name is_extern is_nodebug variants place)
      → slice_get variants variant.0 ≡ Some w → find (λ (v : VariantDef). bytes_eq (sym_text env w.name) (sym_text env v.name)) variants ≡ Some w
  first_is name is_extern is_nodebug variants place w e k = first_found (λ (v : VariantDef). bytes_eq (sym_text env w.name) (sym_text env v.name)) variants variant.0 w k (self_text (sym_text env w.name)) once
    where
      d : TypeDef
      d = def.Enum name is_extern is_nodebug variants place

      once : (j : ℕ) (v : VariantDef) → slice_get variants j ≡ Some v → bytes_eq (sym_text env w.name) (sym_text env v.name) ≡ true → j ≡ variant.0
      once j v f h =
          let same : sym_text env v.name ≡ sym_text env w.name = sym (same_text (sym_text env w.name) (sym_text env v.name) h) in
          id_place j variant (apart ty (record { 0 = j }) variant (sym_text env name, Some (sym_text env w.name))
          (name_at env ty d name variants (record { 0 = j }) v e refl f ∙ ap (λ x. Some (sym_text env name, Some x)) same) (name_at env ty d name variants variant w e refl k))

  enum_form : (name : Sym) (is_extern is_nodebug : Bool) (variants : List VariantDef) (place : _) (o : Option VariantDef) (f : Form) → slice_get env.types.types ty.0 ≡ Some (def.Enum name is_extern is_nodebug variants place) → slice_get variants variant.0 ≡ o
      → option_map (form_of_variant name) o ≡ Some f → IsFormOf env ty f
  enum_form name is_extern is_nodebug variants place None f e k h = cc
  enum_form name is_extern is_nodebug variants place (Some w) f e k h =
      let d = def.Enum name is_extern is_nodebug variants place in
      let first = first_is name is_extern is_nodebug variants place w e k in
      let fields : variant_fields env d (sym_text env name) (sym_text env w.name) ≡ Some (typed_fields env w.fields) =
      ap (λ b. cond b (option_map (λ (x : VariantDef). typed_fields env x.fields) (find (λ (x : VariantDef). bytes_eq (sym_text env w.name) (sym_text env x.name)) variants)) None) (self_text (sym_text env name)) ∙ ap (option_map (λ (x : VariantDef). typed_fields env x.fields)) first in
      subst (IsFormOf env ty) (some_same (form_of_variant name w) f h) (record { d = d; there = e; given = fields })

  variant_is : (o : Option TypeDef) (f : Form) → slice_get env.types.types ty.0 ≡ o → option_and_then (variant_form variant) o ≡ Some f → IsFormOf env ty f
  variant_is None f e h = cc
  variant_is (Some (def.Enum name is_extern is_nodebug variants place)) f e h = enum_form name is_extern is_nodebug variants place (slice_get variants variant.0) f e refl h
  variant_is (Some (def.Builtin of)) f e h = cc
  variant_is (Some (def.Primitive name rust place)) f e h = cc
  variant_is (Some (def.Struct name is_extern is_nodebug fields place)) f e h = cc

struct_is : (env : Environment) (ty : TypeId) (o : Option TypeDef) (f : Form) → slice_get env.types.types ty.0 ≡ o → option_and_then struct_form o ≡ Some f → IsFormOf env ty f
struct_is env ty None f e h = cc
struct_is env ty (Some (def.Struct name is_extern is_nodebug fields place)) f e h =
    let given : struct_fields env (def.Struct name is_extern is_nodebug fields place) (sym_text env name) ≡ Some (typed_fields env fields) = ap (λ b. cond b (Some (typed_fields env fields)) None) (self_text (sym_text env name)) in
    subst (IsFormOf env ty) (some_same (record { ty = name; variant = None; fields = fields }) f h) (record { d = def.Struct name is_extern is_nodebug fields place; there = e; given = given })
struct_is env ty (Some (def.Enum name is_extern is_nodebug variants place)) f e h = cc
struct_is env ty (Some (def.Builtin of)) f e h = cc
struct_is env ty (Some (def.Primitive name rust place)) f e h = cc

form_of : (env : Environment) (ty : TypeId) (mk : Making) (f : Form) → AreVariantsApart env → IsOfMaking ty mk → form env mk ≡ Some f → IsFormOf env ty f
form_of env ty (MakesVariant of variant) f apart is e = subst (λ x. IsFormOf env x f) is (variant_is env apart of variant (slice_get env.types.types of.0) f refl e)
form_of env ty (MakesStruct of) f apart is e = subst (λ x. IsFormOf env x f) is (struct_is env of (slice_get env.types.types of.0) f refl e)
form_of env ty MakesNothing f apart is e = absurd is

def_named : (env : Environment) (d : TypeDef) (ty : Sym) (variant : Option Sym) (fs : FieldValues) → AreFieldsOf env (named_fields env d ty variant) fs → IsOfDef env d (value_named env ty variant fs)
def_named env d ty (Some variant) fs h = h
def_named env d ty None fs h = h

named_def : (env : Environment) (d : TypeDef) (ty : Sym) (variant : Option Sym) (fs : FieldValues) → IsOfDef env d (value_named env ty variant fs) → AreFieldsOf env (named_fields env d ty variant) fs
named_def env d ty (Some variant) fs h = h
named_def env d ty None fs h = h

-- ---- the laws

-- fields of the form's types make a value of the type
pub made_typed : (env : Environment) (ty : TypeId) (mk : Making) (f : Form) (fs : FieldValues) → AreVariantsApart env → IsOfMaking ty mk → form env mk ≡ Some f
    → AreFieldsOf env (Some (typed_fields env f.fields)) fs → HasType env (value_named env f.ty f.variant fs) ty
made_typed env ty mk f fs apart is e h =
    let k = form_of env ty mk f apart is e in
    subst (λ o. IsSomeAnd o (λ d. IsOfDef env d (value_named env f.ty f.variant fs))) (sym k.there) (def_named env k.d f.ty f.variant fs (subst (λ o. AreFieldsOf env o fs) (sym k.given) h))

-- a value of the type and of the form has its fields
pub made_fields : (env : Environment) (ty : TypeId) (mk : Making) (f : Form) (v : Value) → AreVariantsApart env → IsOfMaking ty mk → form env mk ≡ Some f
    → HasType env v ty → is_named env f.ty f.variant v ≡ true → AreFieldsOf env (Some (typed_fields env f.fields)) (fields_in v)
made_fields env ty mk f v apart is e h n =
    let k = form_of env ty mk f apart is e in
    let typed : IsSomeAnd (Some k.d) (λ d. IsOfDef env d (value_named env f.ty f.variant (fields_in v))) =
    subst (λ o. IsSomeAnd o (λ d. IsOfDef env d (value_named env f.ty f.variant (fields_in v)))) k.there (subst (λ x. HasType env x ty) (named_value env f.ty f.variant v n) h) in
    subst (λ o. AreFieldsOf env o (fields_in v)) k.given (named_def env k.d f.ty f.variant (fields_in v) typed)

-- ---- fields by their names

-- no two fields have one name
abbrev pub AreApart : List (List ℕ × TypeId) → Type 0
AreApart fields = (i j : ℕ) (a b : List ℕ × TypeId) → slice_get fields i ≡ Some a → slice_get fields j ≡ Some b → a.0 ≡ b.0 → i ≡ j

-- the field of this number is the one of its name
pub record FieldAt (env : Environment) (fs : FieldValues) (i : ℕ) (f : List ℕ × TypeId) : Type 0 where
  pub v : Value
  pub named : field_of f.0 fs ≡ Some v
  pub there : slice_get (values_of fs) i ≡ Some v
  pub typed : HasType env v f.1

apart_tail : (g : List ℕ × TypeId) (fields : List (List ℕ × TypeId)) → AreApart (g ∷ fields) → AreApart fields
apart_tail g fields h i j a b e f same = suc_same i j (h (suc i) (suc j) a b e f same)

field_here : (env : Environment) (name : List ℕ) (v : Value) (fs : FieldValues) (f : List ℕ × TypeId) → name ≡ f.0 → HasType env v f.1 → FieldAt env (Field name v fs) 0 f
field_here env name v fs f e h = record { v = v; named = rw (e, same_bytes_refl f.0) refl; there = refl; typed = h }

pub field_at : (env : Environment) (fields : List (List ℕ × TypeId)) (fs : FieldValues) (i : ℕ) (f : List ℕ × TypeId) → AreApart fields → AreFieldsOf env (Some fields) fs → slice_get fields i ≡ Some f → FieldAt env fs i f
field_at env [] fs i f apart h e = cc
field_at env (g ∷ fields) NoField i f apart h e = absurd h
field_at env (g ∷ fields) (Field name v fs) zero f apart h e =
    let same = some_same g f e in
    field_here env name v fs f (h.0 ∙ ap (λ (x : List ℕ × TypeId). x.0) same) (subst (λ (x : List ℕ × TypeId). HasType env v x.1) same h.1)
field_at env (g ∷ fields) (Field name v fs) (suc i) f apart h e = later (same_bytes f.0 name) refl (field_at env fields fs i f (apart_tail g fields apart) h.2 e)
  where
    later : (b : Bool) → same_bytes f.0 name ≡ b → FieldAt env fs i f → FieldAt env (Field name v fs) (suc i) f
    later true is k = let bad : 0 ≡ suc i = apart 0 (suc i) g f refl e (sym h.0 ∙ sym (same_bytes_sound f.0 name is)) in cc
    later false is k = record { v = k.v; named = rw is k.named; there = k.there; typed = k.typed }

-- the field of a name stays but for names
pub field_nameless : (name : List ℕ) (fs : FieldValues) → field_of name (nameless_fields fs) ≡ option_map nameless (field_of name fs)
unfolding nameless
field_nameless name NoField = refl
field_nameless name (Field other v fs) = one (same_bytes name other) (field_nameless name fs)
  where
    one : (b : Bool) → field_of name (nameless_fields fs) ≡ option_map nameless (field_of name fs) → cond b (Some (nameless v)) (field_of name (nameless_fields fs)) ≡ option_map nameless (cond b (Some v) (field_of name fs))
    one true e = refl
    one false e = e

some_like : (o : Option Value) (v : Value) → option_map nameless o ≡ Some (nameless v) → (r : Value) × (o ≡ Some r) × (nameless r ≡ nameless v)
some_like None v e = cc
some_like (Some r) v e = (r, refl, cc)

-- fields that are the same but for names have the same but for names at each
pub field_like : (name : List ℕ) (gs fs : FieldValues) (v : Value) → nameless_fields gs ≡ nameless_fields fs → field_of name fs ≡ Some v → (r : Value) × (field_of name gs ≡ Some r) × (nameless r ≡ nameless v)
field_like name gs fs v e found = some_like (field_of name gs) v (sym (field_nameless name gs) ∙ ap (field_of name) e ∙ field_nameless name fs ∙ ap (option_map nameless) found)
