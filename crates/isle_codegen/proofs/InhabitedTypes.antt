-- Inhabited types have values.
use Rattle.std.proofs.Common.{◌≡◌, ℕ, suc, List, [], ◌∷◌, true, false, Option, Some, None, refl, arith}
use Rattle.std.specs.Prelude.{pos, IsSomeAnd, slice_get}
use Rattle.std.specs.Int.{w128}
use Rattle.std.specs.Int.RustNames.{FitsSigned}
use Rattle.std.proofs.lemmas.Int.{fits_signed_from_abs}
use Rattle.isle_core.specs.declared.TypeId.{TypeId}
use Rattle.isle_core.specs.declared.types.TypeDef.{TypeDef}
use Rattle.isle_core.specs.declared.types.TypeDef.TheVariants as def
use Rattle.isle_core.specs.Form.{value_named}
use Rattle.isle_core.specs.HasType.{typed_fields, AreFieldsOf}
use Rattle.isle_core.specs.PatternType.{AreVariantsApart}
use Rattle.isle_core.specs.Rule.{Environment}
use Rattle.isle_core.specs.Terms.{sym_text}
use Rattle.isle_core.specs.Value.{Opaque, FieldValues, NoField, Field}
use Rattle.isle_core.proofs.Inhabited.{builtin_has_value}
use Rattle.isle_simulation.proofs.MadeValues.{made_typed}
use Rattle.isle_codegen.specs.Inhabited.{TakesPlain, IsInhabited, of_plain, of_fields}
use Rattle.isle_codegen.specs.Meant.{HasValue}

zero_fits : FitsSigned w128 (pos 0)
zero_fits = fits_signed_from_abs w128 (pos 0) (omega arith)

plain_value : (env : Environment) (ty : TypeId) (o : Option TypeDef) → slice_get env.types.types ty.0 ≡ o → IsSomeAnd o TakesPlain → HasValue env ty
plain_value env ty None e h = absurd h
plain_value env ty (Some (def.Builtin of)) e h = builtin_has_value env ty (rw e tt)
plain_value env ty (Some (def.Primitive name rust at)) e h = (Opaque (sym_text env rust) (pos 0), rw e (refl, zero_fits))
plain_value env ty (Some (def.Enum name true is_nodebug variants at)) e h = (Opaque (sym_text env name) (pos 0), rw e (refl, zero_fits))
plain_value env ty (Some (def.Struct name true is_nodebug fields at)) e h = (Opaque (sym_text env name) (pos 0), rw e (refl, zero_fits))
plain_value env ty (Some (def.Enum name false is_nodebug variants at)) e h = absurd h
plain_value env ty (Some (def.Struct name false is_nodebug fields at)) e h = absurd h

field_values_of : (env : Environment) (fields : List (List ℕ × TypeId)) → ((i : ℕ) (field : List ℕ × TypeId) → slice_get fields i ≡ Some field → HasValue env field.1) → (fs : FieldValues) × AreFieldsOf env (Some fields) fs
field_values_of env [] h = (NoField, tt)
field_values_of env (f ∷ more) h =
    let v = h 0 f refl in
    let fs = field_values_of env more (λ i field e. h (suc i) field e) in
    (Field f.0 v.0 fs.0, (refl, v.1, fs.1))

-- if no two variants of a type have one name, an inhabited type has a value
pub inhabited_valued : (env : Environment) → AreVariantsApart env → (ty : TypeId) → IsInhabited env ty → HasValue env ty
inhabited_valued env apart _ (of_plain ty h) = plain_value env ty (slice_get env.types.types ty.0) refl h
inhabited_valued env apart _ (of_fields ty made f is there each) =
    let fs = field_values_of env (typed_fields env f.fields) (λ i field e. inhabited_valued env apart field.1 (each i field e)) in
    (value_named env f.ty f.variant fs.0, made_typed env ty made f fs.0 apart is there fs.1)
