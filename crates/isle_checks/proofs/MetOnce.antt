-- A value meets at most one constraint on values of a type.
use Rattle.std.proofs.Common.{◌≡◌, ℕ, List, Bool, true, false, ◌&&◌, Option, Some, None, refl, sym, ap, ◌∙◌}
use Rattle.std.specs.Prelude.{Contains, IsSomeAnd, option_and_then, option_map, slice_get}
use Rattle.std.specs.Str.{bytes_eq}
use Rattle.std.proofs.lemmas.Slice.Eq.{bytes_eq-Decides}
use Rattle.isle_core.specs.declared.Sym.{Sym}
use Rattle.isle_core.specs.declared.TypeId.{TypeId}
use Rattle.isle_core.specs.declared.VariantId.{VariantId}
use Rattle.isle_core.specs.declared.rule_sets.Constraint.{Constraint}
use Rattle.isle_core.specs.declared.rule_sets.Constraint.TheVariants as constraint
use Rattle.isle_core.specs.declared.types.TypeDef.{TypeDef}
use Rattle.isle_core.specs.declared.types.TypeDef.TheVariants as def
use Rattle.isle_core.specs.Constants.{int_value}
use Rattle.isle_core.specs.Form.{Form, variant_form, struct_form, form, form_name, is_named, is_of_form, is_made_by}
use Rattle.isle_core.specs.Having.{const_of}
use Rattle.isle_core.specs.Lawful.{constant_value}
use Rattle.isle_core.specs.Making.{MakesVariant, MakesStruct}
use Rattle.isle_core.specs.Meaning.{Meaning}
use Rattle.isle_core.specs.OccurringConstants.{Constant, Truth, Number, Named, TypedConstant}
use Rattle.isle_core.specs.PatternType.{AreVariantsApart}
use Rattle.isle_core.specs.Terms.{sym_text}
use Rattle.isle_core.specs.Value as value
use Rattle.isle_core.specs.Value.{Value}
use Rattle.isle_core.specs.ValueAt.{Held, One, AValue, is_value, is_const, is_one, is_found, meets}
use Rattle.isle_core.specs.Rule.{Environment}
use Rattle.isle_core.proofs.SameValueLaws.{same_value_decides}
use Rattle.isle_core.specs.NamesApart.{IsPlainDef}
use Rattle.isle_checks.specs.PlainTypes.{IsPlainType}
use Rattle.isle_checks.proofs.TestedTypes.{constant_test, IsOn, on_constant, on_variant, on_struct, on_some}

-- ---- constants

one_value : (h : Held) (v w : Value) → is_value v h ≡ true → is_value w h ≡ true → v ≡ w
one_value (One (AValue u)) v w e k = sym ((same_value_decides u v).0 e) ∙ (same_value_decides u w).0 k
one_value h v w e k = cc

-- a constant that is met has a value
record IsMet (o : Option Value) (h : Held) : Type 0 where
  value : Value
  is : o ≡ Some value
  met : is_value value h ≡ true

const_met : (o : Option Value) (h : Held) → is_const o h ≡ true → IsMet o h
const_met (Some v) h e = record { value = v; is = refl; met = e }
const_met None h e = cc

constant_met : (env : Environment) (m : Meaning) (ty : TypeId) (c : Constant) (h : Held) → meets env m (constant_test ty c) h ≡ true → IsMet (constant_value env m ty c) h
constant_met env m ty (Truth b) h e = record { value = value.Truth b; is = refl; met = e }
constant_met env m ty (Number n) h e = record { value = int_value env ty n; is = refl; met = e }
constant_met env m ty (Named name) h e = const_met (const_of m (sym_text env name)) h e

-- ---- what is made

-- a form that a value is of
record IsFormOf (env : Environment) (o : Option Form) (v : Value) : Type 0 where
  given : Form
  is : o ≡ Some given
  named : is_of_form env (Some given) v ≡ true

form_there : (env : Environment) (o : Option Form) (v : Value) → is_of_form env o v ≡ true → IsFormOf env o v
form_there env (Some f) v e = record { given = f; is = refl; named = e }
form_there env None v e = cc

both_true : (a b : Bool) → (a && b) ≡ true → (a ≡ true) × (b ≡ true)
both_true true true e = (refl, refl)
both_true true false e = cc
both_true false b e = cc

same_text : (a b : List ℕ) → bytes_eq a b ≡ true → a ≡ b
same_text a b e = (bytes_eq-Decides a b).0 e

-- the name under which a value is made
abbrev name_of : Value → Option (List ℕ × Option (List ℕ))
name_of (value.Variant ty variant fs) = Some (ty, Some variant)
name_of (value.Struct ty fs) = Some (ty, None)
name_of (value.Truth b) = None
name_of (value.Int ty n) = None
name_of (value.Opaque ty n) = None

value_named : (env : Environment) (ty : Sym) (o : Option Sym) (v : Value) → is_named env ty o v ≡ true → name_of v ≡ Some (sym_text env ty, option_map (sym_text env) o)
value_named env ty (Some variant) (value.Variant of name fs) e =
    let both = both_true (bytes_eq of (sym_text env ty)) (bytes_eq name (sym_text env variant)) e in
    ap (λ x. Some (x, Some name)) (same_text of (sym_text env ty) both.0) ∙ ap (λ x. Some (sym_text env ty, Some x)) (same_text name (sym_text env variant) both.1)
value_named env ty None (value.Struct of fs) e = ap (λ x. Some (x, None)) (same_text of (sym_text env ty) e)
value_named env ty (Some variant) (value.Struct of fs) e = cc
value_named env ty None (value.Variant of name fs) e = cc
value_named env ty o (value.Truth b) e = cc
value_named env ty o (value.Int of n) e = cc
value_named env ty o (value.Opaque of n) e = cc

-- no value is of two variants
variant_once : (env : Environment) (ty : TypeId) (a b : VariantId) (h : Held) → AreVariantsApart env → is_one (is_made_by env (MakesVariant ty a)) h ≡ true → is_one (is_made_by env (MakesVariant ty b)) h ≡ true → a ≡ b
variant_once env ty a b (One (AValue v)) apart e k =
    let f = form_there env (form env (MakesVariant ty a)) v e in
    let g = form_there env (form env (MakesVariant ty b)) v k in
    apart ty a b (form_name env f.given) (ap (option_map (form_name env)) f.is) (ap (option_map (form_name env)) g.is ∙ sym (value_named env g.given.ty g.given.variant v g.named) ∙ value_named env f.given.ty f.given.variant v f.named)
variant_once env ty a b h apart e k = cc

-- nor of a variant and a struct
not_both : (env : Environment) (variant : VariantId) (o : Option TypeDef) (v : Value) → is_of_form env (option_and_then (variant_form variant) o) v ≡ true → is_of_form env (option_and_then struct_form o) v ≡ true → ⊥
not_both env variant None v e k = cc
not_both env variant (Some (def.Builtin of)) v e k = cc
not_both env variant (Some (def.Primitive name rust pos)) v e k = cc
not_both env variant (Some (def.Enum name is_extern is_nodebug variants pos)) v e k = cc
not_both env variant (Some (def.Struct name is_extern is_nodebug fields pos)) v e k = cc

variant_or_struct : (env : Environment) (ty : TypeId) (variant : VariantId) (h : Held) → is_one (is_made_by env (MakesVariant ty variant)) h ≡ true → is_one (is_made_by env (MakesStruct ty)) h ≡ true → ⊥
variant_or_struct env ty variant (One (AValue v)) e k = not_both env variant (slice_get env.types.types ty.0) v e k
variant_or_struct env ty variant h e k = cc

-- nothing of a builtin or primitive type is made
plain_variant : (env : Environment) (variant : VariantId) (o : Option TypeDef) (v : Value) → IsSomeAnd o IsPlainDef → is_of_form env (option_and_then (variant_form variant) o) v ≡ true → ⊥
plain_variant env variant None v h e = h
plain_variant env variant (Some (def.Builtin of)) v h e = cc
plain_variant env variant (Some (def.Primitive name rust pos)) v h e = cc
plain_variant env variant (Some (def.Enum name is_extern is_nodebug variants pos)) v h e = h
plain_variant env variant (Some (def.Struct name is_extern is_nodebug fields pos)) v h e = h

plain_struct : (env : Environment) (o : Option TypeDef) (v : Value) → IsSomeAnd o IsPlainDef → is_of_form env (option_and_then struct_form o) v ≡ true → ⊥
plain_struct env None v h e = h
plain_struct env (Some (def.Builtin of)) v h e = cc
plain_struct env (Some (def.Primitive name rust pos)) v h e = cc
plain_struct env (Some (def.Enum name is_extern is_nodebug variants pos)) v h e = h
plain_struct env (Some (def.Struct name is_extern is_nodebug fields pos)) v h e = h

no_variant : (env : Environment) (ty : TypeId) (variant : VariantId) (h : Held) → IsPlainType env ty → is_one (is_made_by env (MakesVariant ty variant)) h ≡ true → ⊥
no_variant env ty variant (One (AValue v)) plain e = plain_variant env variant (slice_get env.types.types ty.0) v plain e
no_variant env ty variant h plain e = cc

no_struct : (env : Environment) (ty : TypeId) (h : Held) → IsPlainType env ty → is_one (is_made_by env (MakesStruct ty)) h ≡ true → ⊥
no_struct env ty (One (AValue v)) plain e = plain_struct env (slice_get env.types.types ty.0) v plain e
no_struct env ty h plain e = cc

-- what is something is no value
some_or_one : (test : Value → Bool) (h : Held) → is_one test h ≡ true → is_found h ≡ true → ⊥
some_or_one test (One (AValue v)) e k = cc
some_or_one test h e k = cc

some_or_constant : (env : Environment) (m : Meaning) (ty : TypeId) (c : Constant) (h : Held) → meets env m (constant_test ty c) h ≡ true → is_found h ≡ true → ⊥
some_or_constant env m ty c h e k = found_no_value h (constant_met env m ty c h e).value (constant_met env m ty c h e).met k
  where
    found_no_value : (h : Held) (v : Value) → is_value v h ≡ true → is_found h ≡ true → ⊥
    found_no_value (One (AValue w)) v e k = cc
    found_no_value h v e k = cc

-- ---- one value, one constraint

-- known constants of one type that have one value are one
abbrev pub AreConstantsApart : Environment → Meaning → List TypedConstant → Type 0
AreConstantsApart env m known = (ty : TypeId) (c d : Constant) → Contains known (ty, c) → Contains known (ty, d) → constant_value env m ty c ≡ constant_value env m ty d → c ≡ d

module _ (env : Environment) (m : Meaning) (known : List TypedConstant) (variants : AreVariantsApart env) (constants : AreConstantsApart env m known) where
  pub one_constraint : (ty : TypeId) (h : Held) (c d : Constraint) → IsOn env known ty c → IsOn env known ty d → meets env m c h ≡ true → meets env m d h ≡ true → c ≡ d
  one_constraint ty h c d (on_constant a there plain) (on_constant b also plain') e k =
      let x = constant_met env m ty a h e in
      let y = constant_met env m ty b h k in
      ap (constant_test ty) (constants ty a b there also (x.is ∙ ap Some (one_value h x.value y.value x.met y.met) ∙ sym y.is))
  one_constraint ty h c d (on_constant a there plain) (on_variant variant) e k = absurd (no_variant env ty variant h plain k)
  one_constraint ty h c d (on_constant a there plain) on_struct e k = absurd (no_struct env ty h plain k)
  one_constraint ty h c d (on_variant variant) (on_constant b also plain) e k = absurd (no_variant env ty variant h plain e)
  one_constraint ty h c d on_struct (on_constant b also plain) e k = absurd (no_struct env ty h plain e)
  one_constraint ty h c d (on_variant variant) (on_variant other) e k = ap (constraint.Variant ty) (variant_once env ty variant other h variants e k)
  one_constraint ty h c d (on_variant variant) on_struct e k = absurd (variant_or_struct env ty variant h e k)
  one_constraint ty h c d on_struct (on_variant other) e k = absurd (variant_or_struct env ty other h k e)
  one_constraint ty h c d on_struct on_struct e k = refl
  one_constraint ty h c d on_some on_some e k = refl
  one_constraint ty h c d (on_constant a there plain) on_some e k = absurd (some_or_constant env m ty a h e k)
  one_constraint ty h c d on_some (on_constant b also plain) e k = absurd (some_or_constant env m ty b h k e)
  one_constraint ty h c d (on_variant variant) on_some e k = absurd (some_or_one (is_made_by env (MakesVariant ty variant)) h e k)
  one_constraint ty h c d on_some (on_variant variant) e k = absurd (some_or_one (is_made_by env (MakesVariant ty variant)) h k e)
  one_constraint ty h c d on_struct on_some e k = absurd (some_or_one (is_made_by env (MakesStruct ty)) h e k)
  one_constraint ty h c d on_some on_struct e k = absurd (some_or_one (is_made_by env (MakesStruct ty)) h k e)
