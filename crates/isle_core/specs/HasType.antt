-- The values of a type.
use Rattle.std.specs.Prelude.{◌≡◌, ℕ, suc, ℤ, List, [], ◌∷◌, map, find, true, false, Option, Some, None, option_map, IsSomeAnd, slice_get, if◌then◌else◌}
use Rattle.std.specs.Fmt.{decimal}
use Rattle.std.specs.Int.{w128}
use Rattle.std.specs.Int.RustNames.{FitsSigned}
use Rattle.std.specs.Str.{bytes_eq}
use Rattle.isle_base.specs.declared.ids.TypeId.{TypeId}
use Rattle.isle_core.specs.declared.types.IntType.{IntType}
use Rattle.isle_core.specs.declared.types.IntType.TheVariants as int
use Rattle.isle_core.specs.declared.types.BuiltinType.TheVariants as builtin
use Rattle.isle_core.specs.declared.types.Field.{Field as FieldDef}
use Rattle.isle_core.specs.declared.types.Fields.{Fields}
use Rattle.isle_core.specs.declared.types.Fields.TheVariants as fields
use Rattle.isle_core.specs.declared.types.TypeDef.{TypeDef}
use Rattle.isle_core.specs.declared.types.TypeDef.TheVariants as def
use Rattle.isle_core.specs.declared.types.Variant.{Variant as VariantDef}
use Rattle.isle_core.specs.Int.{IsOf}
use Rattle.isle_core.specs.Value.{Value, Truth, Int, Opaque, Variant, Struct, FieldValues, NoField, Field}
use Rattle.isle_core.specs.Rule.{Environment}
use Rattle.isle_core.specs.Terms.{sym_text}

-- ---- numbers

-- a number as a value of the type holds it: u128 as its 128 signed bits
abbrev pub IsReduced : IntType → ℤ → Type 0
IsReduced int.U128 n = FitsSigned w128 n
IsReduced ty n = IsOf ty n

-- bool takes the truths
abbrev pub TakesTruths : TypeDef → Type 0
TakesTruths (def.Builtin builtin.Bool) = Unit {0}
TakesTruths (def.Builtin (builtin.Int ty)) = ⊥
TakesTruths (def.Primitive name rust pos) = ⊥
TakesTruths (def.Enum name is_extern is_nodebug variants pos) = ⊥
TakesTruths (def.Struct name is_extern is_nodebug fields pos) = ⊥

-- an integer type takes its numbers
abbrev pub TakesInteger : TypeDef → IntType → ℤ → Type 0
TakesInteger (def.Builtin (builtin.Int ty)) of n = (of ≡ ty) × IsReduced ty n
TakesInteger (def.Builtin builtin.Bool) of n = ⊥
TakesInteger (def.Primitive name rust pos) of n = ⊥
TakesInteger (def.Enum name is_extern is_nodebug variants pos) of n = ⊥
TakesInteger (def.Struct name is_extern is_nodebug fields pos) of n = ⊥

-- a primitive type takes numbers of 128 signed bits under its name in Rust, and an extern one under its own
abbrev pub TakesOpaque : Environment → TypeDef → List ℕ → ℤ → Type 0
TakesOpaque env (def.Primitive name rust pos) ty n = (ty ≡ sym_text env rust) × FitsSigned w128 n
TakesOpaque env (def.Enum name true is_nodebug variants pos) ty n = (ty ≡ sym_text env name) × FitsSigned w128 n
TakesOpaque env (def.Struct name true is_nodebug fields pos) ty n = (ty ≡ sym_text env name) × FitsSigned w128 n
TakesOpaque env (def.Enum name false is_nodebug variants pos) ty n = ⊥
TakesOpaque env (def.Struct name false is_nodebug fields pos) ty n = ⊥
TakesOpaque env (def.Builtin of) ty n = ⊥

-- ---- fields

-- the fields of a tuple from the i-th on: their numbers are their names
abbrev pub tuple_fields : ℕ → List TypeId → List (List ℕ × TypeId)
tuple_fields i [] = []
tuple_fields i (ty ∷ tys) = (decimal i, ty) ∷ tuple_fields (suc i) tys

-- the names of fields with their types
abbrev pub typed_fields : Environment → Fields → List (List ℕ × TypeId)
typed_fields env fields.Unit = []
typed_fields env (fields.Struct named) = map (λ (f : FieldDef). (sym_text env f.name, f.ty)) named
typed_fields env (fields.Tuple tys) = tuple_fields 0 tys

-- those of the variant of this name of an enum of this name
abbrev pub variant_fields : Environment → TypeDef → (ty variant : List ℕ) → Option (List (List ℕ × TypeId))
variant_fields env (def.Enum name is_extern is_nodebug variants pos) ty variant =
    if bytes_eq ty (sym_text env name) then option_map (λ (v : VariantDef). typed_fields env v.fields) (find (λ (v : VariantDef). bytes_eq variant (sym_text env v.name)) variants) else None
variant_fields env (def.Builtin of) ty variant = None
variant_fields env (def.Primitive name rust pos) ty variant = None
variant_fields env (def.Struct name is_extern is_nodebug fields pos) ty variant = None

-- those of a struct of this name
abbrev pub struct_fields : Environment → TypeDef → (ty : List ℕ) → Option (List (List ℕ × TypeId))
struct_fields env (def.Struct name is_extern is_nodebug fields pos) ty = if bytes_eq ty (sym_text env name) then Some (typed_fields env fields) else None
struct_fields env (def.Builtin of) ty = None
struct_fields env (def.Primitive name rust pos) ty = None
struct_fields env (def.Enum name is_extern is_nodebug variants pos) ty = None

-- ---- values

-- a value of a type of this definition
abbrev mutual
  pub IsOfDef : Environment → TypeDef → Value → Type 0
  IsOfDef env d (Truth b) = TakesTruths d
  IsOfDef env d (Int of n) = TakesInteger d of n
  IsOfDef env d (Opaque ty n) = TakesOpaque env d ty n
  IsOfDef env d (Variant ty variant fs) = AreFieldsOf env (variant_fields env d ty variant) fs
  IsOfDef env d (Struct ty fs) = AreFieldsOf env (struct_fields env d ty) fs

  -- fields with these names and types, in order, where there are such
  pub AreFieldsOf : Environment → Option (List (List ℕ × TypeId)) → FieldValues → Type 0
  AreFieldsOf env None fs = ⊥
  AreFieldsOf env (Some []) NoField = Unit {0}
  AreFieldsOf env (Some (f ∷ more)) (Field name v fs) = (name ≡ f.0) × IsSomeAnd (slice_get env.types.types f.1.0) (λ d. IsOfDef env d v) × AreFieldsOf env (Some more) fs
  AreFieldsOf env (Some []) (Field name v fs) = ⊥
  AreFieldsOf env (Some (f ∷ more)) NoField = ⊥

-- the value is of the type
abbrev pub HasType : Environment → Value → TypeId → Type 0
HasType env v ty = IsSomeAnd (slice_get env.types.types ty.0) (λ d. IsOfDef env d v)

-- as many values as types, each of its type
abbrev pub HaveTypes : Environment → List Value → List TypeId → Type 0
HaveTypes env [] [] = Unit {0}
HaveTypes env (v ∷ vs) (ty ∷ tys) = HasType env v ty × HaveTypes env vs tys
HaveTypes env [] (ty ∷ tys) = ⊥
HaveTypes env (v ∷ vs) [] = ⊥
