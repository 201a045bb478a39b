-- What a term makes of values of its fields' types is of the type that it makes.
use Rattle.std.proofs.Common.{◌≡◌, ℕ, List, [], ◌∷◌, Bool, true, cond, Option, Some, None, refl, sym, ap, ◌∙◌, subst}
use Rattle.std.specs.Prelude.{IsSomeAnd, find, option_and_then, option_map, slice_get}
use Rattle.std.specs.Str.{bytes_eq}
use Rattle.std.proofs.lemmas.Option.{same_Some}
use Rattle.std.proofs.lemmas.Slice.Eq.{bytes_eq-Decides}
use Rattle.isle_base.specs.declared.ids.Sym.{Sym}
use Rattle.isle_base.specs.declared.ids.TypeId.{TypeId}
use Rattle.isle_base.specs.declared.ids.VariantId.{VariantId}
use Rattle.isle_core.specs.declared.types.TypeDef.{TypeDef}
use Rattle.isle_core.specs.declared.types.TypeDef.TheVariants as def
use Rattle.isle_core.specs.declared.types.Variant.{Variant as VariantDef}
use Rattle.isle_core.specs.Form.{form_of_variant, variant_form, struct_form, form, form_types, field_values, form_value, made_value}
use Rattle.isle_core.specs.HasType.{typed_fields, variant_fields, struct_fields, IsOfDef, AreFieldsOf, HasType, HaveTypes}
use Rattle.isle_core.specs.Making.{Making, MakesVariant, MakesStruct, MakesNothing}
use Rattle.isle_core.specs.PatternType.{AreVariantsApart, IsOfMaking}
use Rattle.isle_core.specs.Rule.{Environment}
use Rattle.isle_core.specs.Terms.{sym_text}
use Rattle.isle_core.specs.Value.{Value}
use Rattle.isle_core.proofs.MadeParts.{types_of, first_is}

-- fields of values of their types
fields_made : (env : Environment) (fields : List (List ℕ × TypeId)) (vs : List Value) → HaveTypes env vs (types_of fields) → AreFieldsOf env (Some fields) (field_values fields vs)
fields_made env [] [] h = tt
fields_made env (f ∷ fields) (v ∷ vs) h = (refl, h.0, fields_made env fields vs h.1)
fields_made env [] (v ∷ vs) h = absurd h
fields_made env (f ∷ fields) [] h = absurd h

-- a text is itself
text_itself : (a : List ℕ) → bytes_eq a a ≡ true
text_itself a = (bytes_eq-Decides a a).1 refl

module _ (env : Environment) (apart : AreVariantsApart env) (vs : List Value) where
  -- a variant of an enum
  enum_made : (ty : TypeId) (variant : VariantId) (name : Sym) (is_extern is_nodebug : Bool) (variants : List VariantDef) (place : _) (o : Option VariantDef) (tys : List TypeId) → slice_get env.types.types ty.0 ≡ Some (def.Enum name is_extern is_nodebug variants place) → slice_get variants variant.0 ≡ o
      → option_map (form_types env) (option_map (form_of_variant name) o) ≡ Some tys → HaveTypes env vs tys → IsOfDef env (def.Enum name is_extern is_nodebug variants place) (form_value env (option_map (form_of_variant name) o) vs)
  enum_made ty variant name is_extern is_nodebug variants place None tys at k e h = cc
  enum_made ty variant name is_extern is_nodebug variants place (Some w) tys at k e h =
      let fields = typed_fields env w.fields in
      let n = sym_text env w.name in
      let typed : HaveTypes env vs (types_of fields) = subst (HaveTypes env vs) (sym (same_Some (types_of fields) tys e)) h in
      let given : variant_fields env (def.Enum name is_extern is_nodebug variants place) (sym_text env name) n ≡ Some fields =
      ap (λ b. cond b (option_map (λ (x : VariantDef). typed_fields env x.fields) (find (λ (x : VariantDef). bytes_eq n (sym_text env x.name)) variants)) None) (text_itself (sym_text env name))
      ∙ ap (option_map (λ (x : VariantDef). typed_fields env x.fields)) (first_is env apart ty variant name is_extern is_nodebug variants place w n at k (text_itself n)) in
      subst (λ x. AreFieldsOf env x (field_values fields vs)) (sym given) (fields_made env fields vs typed)

  variant_made : (ty : TypeId) (variant : VariantId) (o : Option TypeDef) (tys : List TypeId) → slice_get env.types.types ty.0 ≡ o → option_map (form_types env) (option_and_then (variant_form variant) o) ≡ Some tys → HaveTypes env vs tys
      → IsSomeAnd o (λ d. IsOfDef env d (form_value env (option_and_then (variant_form variant) o) vs))
  variant_made ty variant (Some (def.Enum name is_extern is_nodebug variants place)) tys at e h = enum_made ty variant name is_extern is_nodebug variants place (slice_get variants variant.0) tys at refl e h
  variant_made ty variant None tys at e h = cc
  variant_made ty variant (Some (def.Builtin of)) tys at e h = cc
  variant_made ty variant (Some (def.Primitive name rust place)) tys at e h = cc
  variant_made ty variant (Some (def.Struct name is_extern is_nodebug fields place)) tys at e h = cc

  -- a struct
  struct_made : (o : Option TypeDef) (tys : List TypeId) → option_map (form_types env) (option_and_then struct_form o) ≡ Some tys → HaveTypes env vs tys → IsSomeAnd o (λ d. IsOfDef env d (form_value env (option_and_then struct_form o) vs))
  struct_made (Some (def.Struct name is_extern is_nodebug fields place)) tys e h =
      let typed = typed_fields env fields in
      let given : struct_fields env (def.Struct name is_extern is_nodebug fields place) (sym_text env name) ≡ Some typed = ap (λ b. cond b (Some typed) None) (text_itself (sym_text env name)) in
      subst (λ x. AreFieldsOf env x (field_values typed vs)) (sym given) (fields_made env typed vs (subst (HaveTypes env vs) (sym (same_Some (types_of typed) tys e)) h))
  struct_made None tys e h = cc
  struct_made (Some (def.Enum name is_extern is_nodebug variants place)) tys e h = cc
  struct_made (Some (def.Builtin of)) tys e h = cc
  struct_made (Some (def.Primitive name rust place)) tys e h = cc

  -- what a term makes
  pub made_typed : (ty : TypeId) (mk : Making) (tys : List TypeId) → IsOfMaking ty mk → option_map (form_types env) (form env mk) ≡ Some tys → HaveTypes env vs tys → HasType env (made_value env mk vs) ty
  made_typed ty (MakesVariant of variant) tys is e h = subst (HasType env (made_value env (MakesVariant of variant) vs)) is (variant_made of variant (slice_get env.types.types of.0) tys refl e h)
  made_typed ty (MakesStruct of) tys is e h = subst (HasType env (made_value env (MakesStruct of) vs)) is (struct_made (slice_get env.types.types of.0) tys e h)
  made_typed ty MakesNothing tys is e h = absurd is
