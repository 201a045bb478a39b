-- What types without a fault are: no text is two symbols, names are apart, and fields are few and of types that are there.
use Rattle.std.proofs.Common.{◌≡◌, ℕ, zero, suc, List, [], ◌∷◌, map, Option, Some, None, refl, sym, ap, ◌∙◌, subst}
use Rattle.std.specs.Prelude.{IfSome, option_and_then, option_map, slice_get}
use Rattle.std.specs.List.{AllByRecursion, IsDistinct}
use Rattle.std.specs.Str.{bytes_eq}
use Rattle.std.proofs.lemmas.Option.{same_Some, slice_get-map}
use Rattle.isle_core.specs.declared.Sym.{Sym}
use Rattle.isle_core.specs.declared.VariantId.{VariantId}
use Rattle.isle_core.specs.declared.types.TypeDef.{TypeDef}
use Rattle.isle_core.specs.declared.types.TypeDef.TheVariants as def
use Rattle.isle_core.specs.declared.types.TypeEnv.{TypeEnv}
use Rattle.isle_core.specs.declared.types.Variant.{Variant}
use Rattle.isle_core.specs.Form.{Form, form, form_name, form_of_variant, variant_form, struct_form}
use Rattle.isle_core.specs.Making.{Making, MakesVariant, MakesStruct, MakesNothing}
use Rattle.isle_core.specs.NamesApart.{AreFieldsApart}
use Rattle.isle_core.specs.PatternType.{AreVariantsApart}
use Rattle.isle_core.specs.Rule.{Environment}
use Rattle.isle_core.specs.Terms.{sym_text}
use Rattle.isle_ast.specs.Tree.{Def}
use Rattle.isle_types.specs.Fault.{type_fault}
use Rattle.isle_core.specs.TypedParts.{AreFieldsTyped, ArePartsTyped, AreTypesTyped, HasTypedNames}
use Rattle.isle_types.specs.TypeEnvironment.{type_env_of}
use Rattle.isle_types.proofs.SymbolsApart.{distinct_symbols, one_place}
use Rattle.isle_types.proofs.SoundFields.{AreSoundFields}
use Rattle.isle_types.proofs.SoundBodies.{IsSoundDef, all_sound}
use Rattle.isle_types.proofs.SoundConstants.{constants_plain}

-- ---- symbols

-- no text stands twice among symbols
pub symbols_apart : (defs : List Def) (types : TypeEnv) → types ≡ type_env_of defs → IsDistinct bytes_eq types.syms
symbols_apart defs types is = subst (λ (ts : TypeEnv). IsDistinct bytes_eq ts.syms) (sym is) (distinct_symbols defs)

-- ---- variants

all_at : {X : Type 0} (P : X → Type 0) (xs : List X) (i : ℕ) → AllByRecursion P xs → IfSome (slice_get xs i) P
all_at P [] zero h = tt
all_at P [] (suc i) h = tt
all_at P (x ∷ xs) zero h = h.0
all_at P (x ∷ xs) (suc i) h = all_at P xs i h.1

named_at : (env : Environment) (of : Sym) (o : Option Variant) (name : List ℕ × Option (List ℕ)) → option_map (form_name env) (option_map (form_of_variant of) o) ≡ Some name
    → (text : List ℕ) × (name.1 ≡ Some text) × (option_map (λ (v : Variant). sym_text env v.name) o ≡ Some text)
named_at env of None name e = absurd cc
named_at env of (Some v) name e = (sym_text env v.name, sym (ap (λ (n : List ℕ × Option (List ℕ)). n.1) (same_Some (form_name env (form_of_variant of v)) name e)), refl)

variant_by : (env : Environment) (o : Option TypeDef) (v w : VariantId) (name : List ℕ × Option (List ℕ)) → IfSome o (IsSoundDef env) → option_map (form_name env) (option_and_then (variant_form v) o) ≡ Some name
    → option_map (form_name env) (option_and_then (variant_form w) o) ≡ Some name → v ≡ w
variant_by env None v w name s e f = absurd cc
variant_by env (Some (def.Enum of is_extern is_nodebug variants pos)) v w name s e f =
    let text : Variant → List ℕ = λ u. sym_text env u.name in
    let p = named_at env of (slice_get variants v.0) name e in
    let q = named_at env of (slice_get variants w.0) name f in
    let same : p.0 ≡ q.0 = same_Some p.0 q.0 (sym p.1 ∙ q.1) in
    let one = one_place (map text variants) v.0 w.0 p.0 s.0 (slice_get-map text variants v.0 ∙ p.2) (slice_get-map text variants w.0 ∙ q.2 ∙ ap (λ (n : List ℕ). Some n) (sym same)) in
    ap (λ (n : ℕ). let id : VariantId = record { 0 = n } in id) one
variant_by env (Some (def.Struct of is_extern is_nodebug fields pos)) v w name s e f = absurd cc
variant_by env (Some (def.Builtin ty)) v w name s e f = absurd cc
variant_by env (Some (def.Primitive of rust pos)) v w name s e f = absurd cc

-- no two variants of a type have one name
pub variants_apart : (defs : List Def) (env : Environment) → env.types ≡ type_env_of defs → type_fault defs ≡ None → AreVariantsApart env
variants_apart defs env is none ty v w name e f = variant_by env (slice_get env.types.types ty.0) v w name (all_at (IsSoundDef env) env.types.types ty.0 (all_sound defs env is none)) e f

-- ---- fields

fields_of_variant : (env : Environment) (of : Sym) (o : Option Variant) (f : Form) → IfSome o (λ (v : Variant). AreSoundFields env v.fields) → option_map (form_of_variant of) o ≡ Some f → AreSoundFields env f.fields
fields_of_variant env of None f s e = absurd cc
fields_of_variant env of (Some v) f s e = subst (λ (g : Form). AreSoundFields env g.fields) (same_Some (form_of_variant of v) f e) s

variant_fields : (env : Environment) (o : Option TypeDef) (v : VariantId) (f : Form) → IfSome o (IsSoundDef env) → option_and_then (variant_form v) o ≡ Some f → AreSoundFields env f.fields
variant_fields env None v f s e = absurd cc
variant_fields env (Some (def.Enum of is_extern is_nodebug variants pos)) v f s e =
    fields_of_variant env of (slice_get variants v.0) f (all_at (λ (u : Variant). AreSoundFields env u.fields) variants v.0 s.1) e
variant_fields env (Some (def.Struct of is_extern is_nodebug fields pos)) v f s e = absurd cc
variant_fields env (Some (def.Builtin ty)) v f s e = absurd cc
variant_fields env (Some (def.Primitive of rust pos)) v f s e = absurd cc

struct_fields : (env : Environment) (o : Option TypeDef) (f : Form) → IfSome o (IsSoundDef env) → option_and_then struct_form o ≡ Some f → AreSoundFields env f.fields
struct_fields env None f s e = absurd cc
struct_fields env (Some (def.Struct of is_extern is_nodebug fields pos)) f s e =
    let same : record { ty = of; variant = None; fields = fields } ≡ f = same_Some _ f e in
    subst (λ (g : Form). AreSoundFields env g.fields) same s
struct_fields env (Some (def.Enum of is_extern is_nodebug variants pos)) f s e = absurd cc
struct_fields env (Some (def.Builtin ty)) f s e = absurd cc
struct_fields env (Some (def.Primitive of rust pos)) f s e = absurd cc

-- the fields of what a term makes are sound
pub form_sound : (defs : List Def) (env : Environment) (mk : Making) (f : Form) → env.types ≡ type_env_of defs → type_fault defs ≡ None → form env mk ≡ Some f → AreSoundFields env f.fields
form_sound defs env (MakesVariant ty v) f is none e = variant_fields env (slice_get env.types.types ty.0) v f (all_at (IsSoundDef env) env.types.types ty.0 (all_sound defs env is none)) e
form_sound defs env (MakesStruct ty) f is none e = struct_fields env (slice_get env.types.types ty.0) f (all_at (IsSoundDef env) env.types.types ty.0 (all_sound defs env is none)) e
form_sound defs env MakesNothing f is none e = absurd cc

-- no two fields of a variant or a struct have one name
pub fields_apart : (defs : List Def) (env : Environment) → env.types ≡ type_env_of defs → type_fault defs ≡ None → AreFieldsApart env
fields_apart defs env is none mk f i j a b e p q same = (form_sound defs env mk f is none e).apart i j a b p q same

-- ---- parts

variants_typed : (env : Environment) (vs : List Variant) → AllByRecursion (λ (v : Variant). AreSoundFields env v.fields) vs → AllByRecursion (λ (v : Variant). AreFieldsTyped env.types v.fields) vs
variants_typed env [] s = tt
variants_typed env (v ∷ vs) s = (s.0.typed, variants_typed env vs s.1)

parts_typed : (env : Environment) (d : TypeDef) → IsSoundDef env d → ArePartsTyped env.types d
parts_typed env (def.Enum name is_extern is_nodebug variants pos) s = variants_typed env variants s.1
parts_typed env (def.Struct name is_extern is_nodebug fields pos) s = s.typed
parts_typed env (def.Builtin ty) s = tt
parts_typed env (def.Primitive name rust pos) s = tt

all_typed : (env : Environment) (ds : List TypeDef) → AllByRecursion (IsSoundDef env) ds → AllByRecursion (ArePartsTyped env.types) ds
all_typed env [] s = tt
all_typed env (d ∷ ds) s = (parts_typed env d s.0, all_typed env ds s.1)

-- each variant or struct has at most 256 fields, whose types are there, and no symbol is there twice
pub types_typed : (defs : List Def) (env : Environment) → env.types ≡ type_env_of defs → type_fault defs ≡ None → AreTypesTyped env.types
types_typed defs env is none = record { types = all_typed env env.types.types (all_sound defs env is none); symbols = symbols_apart defs env.types is }

-- ---- all of it

-- without a fault names are apart, constants plain, and fields typed
pub typed_names : (defs : List Def) (env : Environment) → env.types ≡ type_env_of defs → type_fault defs ≡ None → HasTypedNames env
typed_names defs env is none = record {
  variants = variants_apart defs env is none;
  fields = fields_apart defs env is none;
  constants = constants_plain defs env is none;
  types = types_typed defs env is none;
}
