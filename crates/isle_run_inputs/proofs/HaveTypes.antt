-- Written values that are no misfits are of their types.
use Rattle.std.proofs.Common.{◌≡◌, ℕ, length, List, [], ◌∷◌, Bool, true, false, Option, Some, None, refl, sym, arith, subst}
use Rattle.std.specs.Prelude.{ℤ, IsSomeAnd, slice_get, option_map, option_and_then, if◌then◌else◌}
use Rattle.isle_core.specs.declared.TypeId.{TypeId}
use Rattle.isle_core.specs.declared.types.IntType.{IntType}
use Rattle.isle_core.specs.declared.types.IntType.TheVariants as int
use Rattle.isle_core.specs.declared.types.BuiltinType.TheVariants as builtin
use Rattle.isle_core.specs.declared.types.TypeDef.{TypeDef}
use Rattle.isle_core.specs.declared.types.TypeDef.TheVariants as def
use Rattle.isle_core.specs.Int.{wrapped}
use Rattle.isle_core.specs.HasType.{IsOfDef, AreFieldsOf, HaveTypes}
use Rattle.isle_core.specs.Rule.{Environment}
use Rattle.isle_core.specs.Terms.{sym_text}
use Rattle.isle_core.specs.Value.{Value, Int, FieldValues}
use Rattle.isle_values.specs.Written as written
use Rattle.isle_values.specs.Written.{Written, Writtens, NoValue, AValue}
use Rattle.isle_run_inputs.specs.Makers.{Maker, OfVariant, OfStruct, maker_at, maker_fields, made_of}
use Rattle.isle_run_inputs.specs.ValuesAt.{misfit, is_of, truth_in, number_in, put_field, value_in, fields_in, or_misfit, value_of_def, values_at}
use Rattle.isle_spelling.proofs.Wraps.{wraps}
use Rattle.isle_run_inputs.proofs.HeldNumbers.{held}

-- as many values as names, and this of each name and value
abbrev pub Matched : (List ℕ → Value → Type 0) → List (List ℕ) → List Value → Type 0
Matched P [] [] = Unit {0}
Matched P (name ∷ names) (v ∷ vs) = P name v × Matched P names vs
Matched P [] (v ∷ vs) = ⊥
Matched P (name ∷ names) [] = ⊥

-- what holds of a value, if there is one
abbrev IfThere : {X : Type 0} → (X → Type 0) → Option X → Type 0
IfThere P None = Unit {0}
IfThere P (Some x) = P x

-- ---- truths and numbers

-- a number at an integer type, by whether it is one of the type
integer_by : (env : Environment) (ty : IntType) (n : ℤ) (fit : Bool) → is_of ty n ≡ fit → IfThere (IsOfDef env (def.Builtin (builtin.Int ty))) (if fit then Some (Int ty (wrapped int.I128 n)) else None)
integer_by env ty n true is = (refl, held ty n is)
integer_by env ty n false is = tt

-- a truth that is there is of its type
truth_of : (env : Environment) (d : TypeDef) (b : Bool) → IfThere (IsOfDef env d) (truth_in d b)
truth_of env (def.Builtin builtin.Bool) b = tt
truth_of env (def.Builtin (builtin.Int ty)) b = tt
truth_of env (def.Primitive name rust at) b = tt
truth_of env (def.Enum name is_extern is_nodebug variants at) b = tt
truth_of env (def.Struct name is_extern is_nodebug fields at) b = tt

-- a number that is there is of its type
number_of : (env : Environment) (d : TypeDef) (n : ℤ) → IfThere (IsOfDef env d) (number_in env d n)
number_of env (def.Builtin builtin.Bool) n = tt
number_of env (def.Builtin (builtin.Int ty)) n = integer_by env ty n (is_of ty n) refl
number_of env (def.Primitive name rust at) n = (refl, (wraps int.I128 n).within)
number_of env (def.Enum name true is_nodebug variants at) n = (refl, (wraps int.I128 n).within)
number_of env (def.Enum name false is_nodebug variants at) n = tt
number_of env (def.Struct name true is_nodebug fields at) n = (refl, (wraps int.I128 n).within)
number_of env (def.Struct name false is_nodebug fields at) n = tt

-- ---- values

-- a value of fields that are those of its variant or struct
of_maker : (env : Environment) (d : TypeDef) (m : Maker) (fs : FieldValues) → AreFieldsOf env (maker_fields env d m) fs → IsOfDef env d (made_of m fs)
of_maker env d (OfVariant ty variant) fs h = h
of_maker env d (OfStruct ty) fs h = h

-- what is made of fields that are there
made_by : (env : Environment) (d : TypeDef) (m : Maker) (fields : List (List ℕ × TypeId)) (fs : Option FieldValues) → maker_fields env d m ≡ Some fields → IfThere (AreFieldsOf env (Some fields)) fs → IfThere (IsOfDef env d) (option_map (made_of m) fs)
made_by env d m fields None e h = tt
made_by env d m fields (Some fs) e h = of_maker env d m fs (subst (λ x. AreFieldsOf env x fs) (sym e) h)

-- what a name makes, by the fields that it has at the type
made_with : (env : Environment) (d : TypeDef) (m : Maker) (fields : Option (List (List ℕ × TypeId))) (parts : Writtens) → maker_fields env d m ≡ fields
    → ((known : List (List ℕ × TypeId)) → IfThere (AreFieldsOf env (Some known)) (fields_in env known parts))
    → IfThere (IsOfDef env d) (option_and_then (λ (x : Maker × List (List ℕ × TypeId)). option_map (made_of x.0) (fields_in env x.1 parts)) (option_map (λ known. (m, known)) fields))
made_with env d m None parts e all = tt
made_with env d m (Some known) parts e all = made_by env d m known (fields_in env known parts) e (all known)

-- what a name makes, if it says something
made_at : (env : Environment) (d : TypeDef) (m : Option Maker) (parts : Writtens)
    → ((known : List (List ℕ × TypeId)) → IfThere (AreFieldsOf env (Some known)) (fields_in env known parts))
    → IfThere (IsOfDef env d) (option_and_then (λ (x : Maker × List (List ℕ × TypeId)). option_map (made_of x.0) (fields_in env x.1 parts)) (option_and_then (λ y. option_map (λ known. (y, known)) (maker_fields env d y)) m))
made_at env d None parts all = tt
made_at env d (Some m) parts all = made_with env d m (maker_fields env d m) parts refl all

-- a value at a type that may be missing
at_type : (env : Environment) (d : Option TypeDef) (w : Written) → ((x : TypeDef) → IfThere (IsOfDef env x) (value_in env x w)) → IfThere (λ v. IsSomeAnd d (λ x. IsOfDef env x v)) (option_and_then (λ x. value_in env x w) d)
at_type env None w of = tt
at_type env (Some d) w of = of d

-- a field in front
put_of : (env : Environment) (f : List ℕ × TypeId) (more : List (List ℕ × TypeId)) (v : Option Value) (fs : Option FieldValues)
    → IfThere (λ x. IsSomeAnd (slice_get env.types.types f.1.0) (λ d. IsOfDef env d x)) v → IfThere (AreFieldsOf env (Some more)) fs
    → IfThere (AreFieldsOf env (Some (f ∷ more))) (put_field (option_map (λ x. (f.0, x)) v) fs)
put_of env f more None fs h k = tt
put_of env f more (Some v) None h k = tt
put_of env f more (Some v) (Some fs) h k = (refl, h, k)

-- a written value that is there is of its type, and fields are those of their names and types
mutual
  value_of : (env : Environment) (d : TypeDef) (w : Written) → IfThere (IsOfDef env d) (value_in env d w)
  value_of env d (written.Truth b) = truth_of env d b
  value_of env d (written.Number n) = number_of env d n
  value_of env d (written.Made name parts) = made_at env d (maker_at env d name) parts (λ known. fields_of env known parts)

  fields_of : (env : Environment) (fields : List (List ℕ × TypeId)) (parts : Writtens) → IfThere (AreFieldsOf env (Some fields)) (fields_in env fields parts)
  fields_of env [] NoValue = tt
  fields_of env [] (AValue w ws) = tt
  fields_of env (f ∷ more) NoValue = tt
  fields_of env (f ∷ more) (AValue w ws) =
      put_of env f more (option_and_then (λ d. value_in env d w) (slice_get env.types.types f.1.0)) (fields_in env more ws) (at_type env (slice_get env.types.types f.1.0) w (λ d. value_of env d w)) (fields_of env more ws)

-- a value that is no misfit
fitting : (env : Environment) (P : List ℕ → Value → Type 0) → ((name : List ℕ) → P name misfit → ⊥) → (name : List ℕ) (d : Option TypeDef) (v : Option Value) → IfThere (λ x. IsSomeAnd d (λ y. IsOfDef env y x)) v → P name (or_misfit v)
    → IsSomeAnd d (λ x. IsOfDef env x (or_misfit v))
fitting env P bad name d None h p = absurd (bad name p)
fitting env P bad name d (Some v) h p = h

-- a value that is no misfit is of its type
of_def : (env : Environment) (P : List ℕ → Value → Type 0) → ((name : List ℕ) → P name misfit → ⊥) → (name : List ℕ) (d : Option TypeDef) (w : Written) → P name (value_of_def env d w) → IsSomeAnd d (λ x. IsOfDef env x (value_of_def env d w))
of_def env P bad name d w p = fitting env P bad name d (option_and_then (λ x. value_in env x w) d) (at_type env d w (λ x. value_of env x w)) p

-- if a property that no misfit has holds of each value by the name at its place, and there are as many names as types, the values are of the types
pub have_types : (P : List ℕ → Value → Type 0) → ((name : List ℕ) → P name misfit → ⊥) → (env : Environment) (names : List (List ℕ)) (tys : List TypeId) (ws : Writtens) → length names ≡ length tys
    → Matched P names (values_at env tys ws) → HaveTypes env (values_at env tys ws) tys
have_types P bad env [] [] NoValue e m = tt
have_types P bad env [] [] (AValue w ws) e m = absurd m
have_types P bad env [] (ty ∷ tys) ws e m = absurd (omega (arith, e))
have_types P bad env (name ∷ names) [] ws e m = absurd (omega (arith, e))
have_types P bad env (name ∷ names) (ty ∷ tys) NoValue e m = absurd m
have_types P bad env (name ∷ names) (ty ∷ tys) (AValue w ws) e m =
    (of_def env P bad name (slice_get env.types.types ty.0) w m.0, have_types P bad env names tys ws (omega (arith, e)) m.1)
