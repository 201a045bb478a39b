-- What is of a type and of a form has the fields of that form.
use Rattle.std.proofs.Common.{◌≡◌, ℕ, zero, suc, List, [], ◌∷◌, map, Bool, true, false, ◌&&◌, Option, Some, None, refl, sym, ap, ◌∙◌, subst}
use Rattle.std.specs.Prelude.{IsSomeAnd, find, option_and_then, option_map, slice_get, cond}
use Rattle.std.specs.Str.{bytes_eq}
use Rattle.std.proofs.lemmas.Slice.Eq.{bytes_eq-Decides}
use Rattle.isle_base.specs.declared.ids.Sym.{Sym}
use Rattle.isle_base.specs.declared.ids.TypeId.{TypeId}
use Rattle.isle_base.specs.declared.ids.VariantId.{VariantId}
use Rattle.isle_core.specs.declared.types.TypeDef.{TypeDef}
use Rattle.isle_core.specs.declared.types.TypeDef.TheVariants as def
use Rattle.isle_core.specs.declared.types.Variant.{Variant as VariantDef}
use Rattle.isle_core.specs.Form.{Form, form_of_variant, variant_form, struct_form, form, form_types, form_name, is_of_form, is_made_by, values_of, parts}
use Rattle.isle_core.specs.HasType.{typed_fields, variant_fields, struct_fields, IsOfDef, AreFieldsOf, HasType, HaveTypes}
use Rattle.isle_core.specs.Making.{Making, MakesVariant, MakesStruct, MakesNothing}
use Rattle.isle_core.specs.PatternType.{AreVariantsApart, IsOfMaking}
use Rattle.isle_core.specs.Rule.{Environment}
use Rattle.isle_core.specs.Terms.{sym_text}
use Rattle.isle_core.specs.Value.{Value, Truth, Int, Opaque, Variant, Struct, FieldValues, NoField, Field}
use Rattle.isle_core.proofs.OptionLaws.{some_same}

-- ---- fields

abbrev pub types_of : List (List ℕ × TypeId) → List TypeId
types_of fields = map (λ (f : List ℕ × TypeId). f.1) fields

-- the values of fields have the fields' types
fields_typed : (env : Environment) (fields : List (List ℕ × TypeId)) (fs : FieldValues) → AreFieldsOf env (Some fields) fs → HaveTypes env (values_of fs) (types_of fields)
fields_typed env [] NoField h = tt
fields_typed env (f ∷ fields) (Field name v fs) h = (h.1, fields_typed env fields fs h.2)
fields_typed env [] (Field name v fs) h = absurd h
fields_typed env (f ∷ fields) NoField h = absurd h

-- ---- the first of a name

-- what is found first stands somewhere, and is what is looked for
record FoundAt {A : Type 0} (p : A → Bool) (xs : List A) : Type 0 where
  place : ℕ
  found : A
  is : find p xs ≡ Some found
  there : slice_get xs place ≡ Some found
  holds : p found ≡ true

found_more : {A : Type 0} (p : A → Bool) (x : A) (xs : List A) (b : Bool) → p x ≡ b → FoundAt p xs → FoundAt p (x ∷ xs)
found_more p x xs true e h = record { place = 0; found = x; is = rw e refl; there = refl; holds = e }
found_more p x xs false e h = record { place = suc h.place; found = h.found; is = rw e h.is; there = h.there; holds = h.holds }

find_there : {A : Type 0} (p : A → Bool) (xs : List A) (k : ℕ) (x : A) → slice_get xs k ≡ Some x → p x ≡ true → FoundAt p xs
find_there p [] k x e h = cc
find_there p (y ∷ xs) zero x e h = record { place = 0; found = y; is = rw (ap p (some_same y x e) ∙ h) refl; there = refl; holds = ap p (some_same y x e) ∙ h }
find_there p (y ∷ xs) (suc k) x e h = found_more p y xs (p y) refl (find_there p xs k x e h)

-- ---- variants

both_true : (a b : Bool) → (a && b) ≡ true → (a ≡ true) × (b ≡ true)
both_true true true e = (refl, refl)
both_true true false e = cc
both_true false b e = cc

same_text : (a b : List ℕ) → bytes_eq a b ≡ true → a ≡ b
same_text a b e = (bytes_eq-Decides a b).0 e

-- a value of a form has its fields' types
pub record PartsTyped (env : Environment) (o : Option Form) (v : Value) : Type 0 where
  pub tys : List TypeId
  pub is : option_map (form_types env) o ≡ Some tys
  pub types : HaveTypes env (parts v) tys

-- the name of the variant of this number, if the type and the variant are there
name_at : (env : Environment) (ty : TypeId) (d : TypeDef) (name : Sym) (variants : List VariantDef) (variant : VariantId) (w : VariantDef) → slice_get env.types.types ty.0 ≡ Some d
    → variant_form variant d ≡ option_map (form_of_variant name) (slice_get variants variant.0) → slice_get variants variant.0 ≡ Some w → option_map (form_name env) (form env (MakesVariant ty variant)) ≡ Some (sym_text env name, Some (sym_text env w.name))
name_at env ty d name variants variant w e f k = ap (λ o. option_map (form_name env) (option_and_then (variant_form variant) o)) e ∙ ap (option_map (form_name env)) f ∙ ap (λ o. option_map (form_name env) (option_map (form_of_variant name) o)) k

id_place : (i : ℕ) (v : VariantId) → record { 0 = i } ≡ v → i ≡ v.0
id_place i v e = ap (λ (x : VariantId). x.0) e

module _ (env : Environment) (apart : AreVariantsApart env) (ty : TypeId) (variant : VariantId) where
  -- the first variant of the name is this one
  pub first_is : (name : Sym) (is_extern is_nodebug : Bool) (variants : List VariantDef) (place : _) (w : VariantDef) (n : List ℕ) → slice_get env.types.types ty.0 ≡ Some (def.Enum name is_extern is_nodebug variants place)
      → slice_get variants variant.0 ≡ Some w → bytes_eq n (sym_text env w.name) ≡ true → find (λ (v : VariantDef). bytes_eq n (sym_text env v.name)) variants ≡ Some w
  first_is name is_extern is_nodebug variants place w n e k t =
      let f = find_there (λ (v : VariantDef). bytes_eq n (sym_text env v.name)) variants variant.0 w k t in
      let d = def.Enum name is_extern is_nodebug variants place in
      let same : sym_text env f.found.name ≡ sym_text env w.name = sym (same_text n (sym_text env f.found.name) f.holds) ∙ same_text n (sym_text env w.name) t in
      let number = apart ty (record { 0 = f.place }) variant (sym_text env name, Some (sym_text env w.name))
      (name_at env ty d name variants (record { 0 = f.place }) f.found e refl f.there ∙ ap (λ x. Some (sym_text env name, Some x)) same) (name_at env ty d name variants variant w e refl k) in
      f.is ∙ sym f.there ∙ ap (slice_get variants) (id_place f.place variant number) ∙ k

  enum_parts : (name : Sym) (is_extern is_nodebug : Bool) (variants : List VariantDef) (place : _) (o : Option VariantDef) (v : Value) → slice_get env.types.types ty.0 ≡ Some (def.Enum name is_extern is_nodebug variants place) → slice_get variants variant.0 ≡ o
      → IsOfDef env (def.Enum name is_extern is_nodebug variants place) v → is_of_form env (option_map (form_of_variant name) o) v ≡ true → PartsTyped env (option_map (form_of_variant name) o) v
  enum_parts name is_extern is_nodebug variants place (Some w) (Variant of n fs) e k h t =
      let both = both_true (bytes_eq of (sym_text env name)) (bytes_eq n (sym_text env w.name)) t in
      let found = first_is name is_extern is_nodebug variants place w n e k both.1 in
      let fields : variant_fields env (def.Enum name is_extern is_nodebug variants place) of n ≡ Some (typed_fields env w.fields) =
      ap (λ b. cond b (option_map (λ (x : VariantDef). typed_fields env x.fields) (find (λ (x : VariantDef). bytes_eq n (sym_text env x.name)) variants)) None) both.0 ∙ ap (option_map (λ (x : VariantDef). typed_fields env x.fields)) found in
      record { tys = types_of (typed_fields env w.fields); is = refl; types = fields_typed env (typed_fields env w.fields) fs (subst (λ x. AreFieldsOf env x fs) fields h) }
  enum_parts name is_extern is_nodebug variants place None v e k h t = cc
  enum_parts name is_extern is_nodebug variants place (Some w) (Struct of fs) e k h t = cc
  enum_parts name is_extern is_nodebug variants place (Some w) (Truth b) e k h t = cc
  enum_parts name is_extern is_nodebug variants place (Some w) (Int of n) e k h t = cc
  enum_parts name is_extern is_nodebug variants place (Some w) (Opaque of n) e k h t = cc

  variant_parts : (o : Option TypeDef) (v : Value) → slice_get env.types.types ty.0 ≡ o → IsSomeAnd o (λ d. IsOfDef env d v) → is_of_form env (option_and_then (variant_form variant) o) v ≡ true → PartsTyped env (option_and_then (variant_form variant) o) v
  variant_parts None v e h t = absurd h
  variant_parts (Some (def.Enum name is_extern is_nodebug variants place)) v e h t = enum_parts name is_extern is_nodebug variants place (slice_get variants variant.0) v e refl h t
  variant_parts (Some (def.Builtin of)) v e h t = cc
  variant_parts (Some (def.Primitive name rust place)) v e h t = cc
  variant_parts (Some (def.Struct name is_extern is_nodebug fields place)) v e h t = cc

-- ---- structs

struct_parts : (env : Environment) (o : Option TypeDef) (v : Value) → IsSomeAnd o (λ d. IsOfDef env d v) → is_of_form env (option_and_then struct_form o) v ≡ true → PartsTyped env (option_and_then struct_form o) v
struct_parts env (Some (def.Struct name is_extern is_nodebug fields place)) (Struct of fs) h t =
    let given : struct_fields env (def.Struct name is_extern is_nodebug fields place) of ≡ Some (typed_fields env fields) = ap (λ b. cond b (Some (typed_fields env fields)) None) t in
    record { tys = types_of (typed_fields env fields); is = refl; types = fields_typed env (typed_fields env fields) fs (subst (λ x. AreFieldsOf env x fs) given h) }
struct_parts env None v h t = absurd h
struct_parts env (Some (def.Struct name is_extern is_nodebug fields place)) (Variant of n fs) h t = cc
struct_parts env (Some (def.Struct name is_extern is_nodebug fields place)) (Truth b) h t = cc
struct_parts env (Some (def.Struct name is_extern is_nodebug fields place)) (Int of n) h t = cc
struct_parts env (Some (def.Struct name is_extern is_nodebug fields place)) (Opaque of n) h t = cc
struct_parts env (Some (def.Enum name is_extern is_nodebug variants place)) v h t = cc
struct_parts env (Some (def.Builtin of)) v h t = cc
struct_parts env (Some (def.Primitive name rust place)) v h t = cc

-- ---- the law

-- a value of a type that a term of the type makes has the types of the term's parts
pub made_parts : (env : Environment) (ty : TypeId) (mk : Making) (v : Value) → AreVariantsApart env → IsOfMaking ty mk → HasType env v ty → is_made_by env mk v ≡ true → PartsTyped env (form env mk) v
made_parts env ty (MakesVariant of variant) v apart is h t = variant_parts env apart of variant (slice_get env.types.types of.0) v refl (subst (HasType env v) (sym is) h) t
made_parts env ty (MakesStruct of) v apart is h t = struct_parts env (slice_get env.types.types of.0) v (subst (HasType env v) (sym is) h) t
made_parts env ty MakesNothing v apart is h t = absurd is
