-- Written values at the types of an environment.
use Rattle.std.specs.Prelude.{ℕ, ℤ, pos, negsuc, ◌^◌, List, [], ◌∷◌, Bool, true, false, ◌&&◌, nat_lt, if◌then◌else◌, Option, Some, None, option_map, option_and_then, slice_get}
use mir.Val.{bits, hbits}
use Rattle.isle_core.specs.declared.TypeId.{TypeId}
use Rattle.isle_core.specs.declared.types.IntType.{IntType}
use Rattle.isle_core.specs.declared.types.BuiltinType.TheVariants as builtin
use Rattle.isle_core.specs.declared.types.TypeDef.{TypeDef}
use Rattle.isle_core.specs.declared.types.TypeDef.TheVariants as def
use Rattle.isle_core.specs.declared.types.IntType.TheVariants.{I128}
use Rattle.isle_core.specs.Int.{width, is_signed, wrapped}
use Rattle.isle_core.specs.Rule.{Environment}
use Rattle.isle_core.specs.Terms.{sym_text}
use Rattle.isle_core.specs.Value.{Value, Truth, Int, Opaque, FieldValues, NoField, Field}
use Rattle.isle_values.specs.Written as written
use Rattle.isle_values.specs.Written.{Written, Writtens, NoValue, AValue}
use Rattle.isle_run_inputs.specs.Makers.{making, made_of}

-- what is given for a written value that is none of its type: an opaque number under no name, while each type has a name
abbrev pub misfit : Value
misfit = Opaque [] (pos 0)

-- ---- numbers of a type

-- how many numbers of the type lie from 0 on
abbrev pub count_up : IntType → ℕ
count_up ty = if is_signed ty then 2 ^ hbits (width ty) else 2 ^ bits (width ty)

-- a number of the type, before any wrapping
abbrev pub is_of : IntType → ℤ → Bool
is_of ty (pos n) = nat_lt n (count_up ty)
is_of ty (negsuc n) = is_signed ty && nat_lt n (2 ^ hbits (width ty))

-- ---- truths and numbers

-- a number at an integer type, held as its 128 signed bits
abbrev pub integer_in : IntType → ℤ → Option Value
integer_in ty n = if is_of ty n then Some (Int ty (wrapped I128 n)) else None

-- an opaque number under this name, wrapped to 128 signed bits
abbrev pub opaque_in : (name : List ℕ) → ℤ → Value
opaque_in name n = Opaque name (wrapped I128 n)

-- a truth at a type: at bool alone
abbrev pub truth_in : TypeDef → Bool → Option Value
truth_in (def.Builtin builtin.Bool) b = Some (Truth b)
truth_in (def.Builtin (builtin.Int ty)) b = None
truth_in (def.Primitive name rust at) b = None
truth_in (def.Enum name is_extern is_nodebug variants at) b = None
truth_in (def.Struct name is_extern is_nodebug fields at) b = None

-- a number at a type: opaque at a primitive type, under its name in Rust, and at an extern one, under its own
abbrev pub number_in : Environment → TypeDef → ℤ → Option Value
number_in env (def.Builtin (builtin.Int ty)) n = integer_in ty n
number_in env (def.Primitive name rust at) n = Some (opaque_in (sym_text env rust) n)
number_in env (def.Enum name true is_nodebug variants at) n = Some (opaque_in (sym_text env name) n)
number_in env (def.Struct name true is_nodebug fields at) n = Some (opaque_in (sym_text env name) n)
number_in env (def.Enum name false is_nodebug variants at) n = None
number_in env (def.Struct name false is_nodebug fields at) n = None
number_in env (def.Builtin builtin.Bool) n = None

-- ---- values

-- a field in front of others, if it and they are there
abbrev pub put_field : Option (List ℕ × Value) → Option FieldValues → Option FieldValues
put_field None fs = None
put_field (Some f) None = None
put_field (Some f) (Some fs) = Some (Field f.0 f.1 fs)

-- a value at the type of a field, with the field's name, by what is given at each type
abbrev pub at_field : Environment → List ℕ × TypeId → (TypeDef → Option Value) → Option (List ℕ × Value)
at_field env f given = option_map (λ v. (f.0, v)) (option_and_then given (slice_get env.types.types f.1.0))

-- a written value at a type of this definition, if it is one of the type with all that is inside it
abbrev mutual
  pub value_in : Environment → TypeDef → Written → Option Value
  value_in env d (written.Truth b) = truth_in d b
  value_in env d (written.Number n) = number_in env d n
  value_in env d (written.Made name parts) = option_and_then (λ m. option_map (made_of m.0) (fields_in env m.1 parts)) (making env d name)

  -- as many values as fields, in order, each at the type of its field
  pub fields_in : Environment → List (List ℕ × TypeId) → Writtens → Option FieldValues
  fields_in env [] NoValue = Some NoField
  fields_in env (f ∷ more) (AValue w ws) = put_field (at_field env f (λ d. value_in env d w)) (fields_in env more ws)
  fields_in env [] (AValue w ws) = None
  fields_in env (f ∷ more) NoValue = None

-- a written value at the type of a field, with the field's name
abbrev pub field_in : Environment → List ℕ × TypeId → Written → Option (List ℕ × Value)
field_in env f w = at_field env f (λ d. value_in env d w)

-- the value, or what is given if there is none
abbrev pub or_misfit : Option Value → Value
or_misfit None = misfit
or_misfit (Some v) = v

-- a written value at a type of this definition, if there is one
abbrev pub value_of_def : Environment → Option TypeDef → Written → Value
value_of_def env d w = or_misfit (option_and_then (λ x. value_in env x w) d)

-- a written value at a type of the environment
abbrev pub value_at : Environment → TypeId → Written → Value
value_at env ty w = value_of_def env (slice_get env.types.types ty.0) w

-- if there is no type, no value fits
abbrev pub value_at_any : Environment → Option TypeId → Written → Value
value_at_any env None w = misfit
value_at_any env (Some ty) w = value_at env ty w

-- written values, each at its type
abbrev pub values_at : Environment → List TypeId → Writtens → List Value
values_at env tys NoValue = []
values_at env [] (AValue w ws) = misfit ∷ values_at env [] ws
values_at env (ty ∷ tys) (AValue w ws) = value_at env ty w ∷ values_at env tys ws
