-- Which operations a type has, in order, and what is said of each.
use Rattle.std.specs.Prelude.{ℕ, List, [], ◌∷◌, ◌++◌, map, Bool, true, false, codes, if◌then◌else◌}
use Rattle.isle_numerics.specs.declared.operation.Comparison.TheVariants.{Eq, Ne, Lt, LtEq, Gt, GtEq}
use Rattle.isle_numerics.specs.declared.operation.Arithmetic.TheVariants.{CheckedAdd, WrappingAdd, Add, CheckedSub, WrappingSub, Sub, CheckedMul, WrappingMul, Mul, CheckedDiv, WrappingDiv, Div, CheckedRem, Rem}
use Rattle.isle_numerics.specs.declared.operation.Bitwise.TheVariants.{And, Or, Xor, Not}
use Rattle.isle_numerics.specs.declared.operation.Shift.TheVariants.{CheckedShl, WrappingShl, Shl, CheckedShr, WrappingShr, Shr, Rotl, Rotr}
use Rattle.isle_numerics.specs.declared.operation.Predicate.TheVariants.{Zero, NonZero, Odd, Even, PowerOfTwo}
use Rattle.isle_numerics.specs.declared.operation.Count.TheVariants.{CheckedIlog2, Ilog2, TrailingZeros, TrailingOnes, LeadingZeros, LeadingOnes}
use Rattle.isle_numerics.specs.declared.operation.Negation.TheVariants.{CheckedNeg, WrappingNeg, Neg}
use Rattle.isle_numerics.specs.declared.operation.Operation.{Operation}
use Rattle.isle_numerics.specs.declared.operation.Operation.TheVariants.{Compare, Compute, Bits, Move, Ask, Tally, Negate}
use Rattle.isle_numerics.specs.declared.operation.Takes.{Takes}
use Rattle.isle_numerics.specs.declared.operation.Takes.TheVariants.{One, Two, Amount}
use Rattle.isle_numerics.specs.declared.operation.Gives.{Gives}
use Rattle.isle_numerics.specs.declared.operation.Gives.TheVariants.{Same, Truth, Places}
use Rattle.isle_numerics.specs.declared.numeric_type.NumericType.{NumericType}
use Rattle.isle_numerics.specs.declared.table.NumericOp.{NumericOp}
use Rattle.isle_core.specs.Int.{type_name}
use Rattle.isle_numerics.specs.NumericTypes.{int_type}
use Rattle.isle_numerics.specs.Operations.{row}

-- the operations that each type has
abbrev pub shared : List Operation
shared =
    Compare Eq ∷ Compare Ne ∷ Compare Lt ∷ Compare LtEq ∷ Compare Gt ∷ Compare GtEq
    ∷ Compute CheckedAdd ∷ Compute WrappingAdd ∷ Compute Add ∷ Compute CheckedSub ∷ Compute WrappingSub ∷ Compute Sub
    ∷ Compute CheckedMul ∷ Compute WrappingMul ∷ Compute Mul ∷ Compute CheckedDiv ∷ Compute WrappingDiv ∷ Compute Div
    ∷ Compute CheckedRem ∷ Compute Rem
    ∷ Bits And ∷ Bits Or ∷ Bits Xor ∷ Bits Not
    ∷ Move CheckedShl ∷ Move WrappingShl ∷ Move Shl ∷ Move CheckedShr ∷ Move WrappingShr ∷ Move Shr
    ∷ Move Rotl ∷ Move Rotr
    ∷ Ask Zero ∷ Ask NonZero ∷ Ask Odd ∷ Ask Even
    ∷ Tally CheckedIlog2 ∷ Tally Ilog2 ∷ Tally TrailingZeros ∷ Tally TrailingOnes ∷ Tally LeadingZeros ∷ Tally LeadingOnes ∷ []

-- those that only signed types have
abbrev pub negations : List Operation
negations = Negate CheckedNeg ∷ Negate WrappingNeg ∷ Negate Neg ∷ []

-- that which only unsigned types have
abbrev pub power_of_two : List Operation
power_of_two = Ask PowerOfTwo ∷ []

-- those of a type's own, by its sign
abbrev pub own_operations : Bool → List Operation
own_operations signed = if signed then negations else power_of_two

-- the operations of a type of this sign, in order
abbrev pub operations : Bool → List Operation
operations signed = shared ++ own_operations signed

-- the predicates, for which extractors are made
abbrev pub is_predicate : Operation → Bool
is_predicate (Compare op) = false
is_predicate (Compute op) = false
is_predicate (Bits op) = false
is_predicate (Move op) = false
is_predicate (Ask op) = true
is_predicate (Tally op) = false
is_predicate (Negate op) = false

-- the names and types of what an operation takes, at the type of this name
abbrev pub arguments : List ℕ → Takes → List (List ℕ × List ℕ)
arguments name One = (codes "a", name) ∷ []
arguments name Two = (codes "a", name) ∷ (codes "b", name) ∷ []
arguments name Amount = (codes "a", name) ∷ (codes "b", codes "u32") ∷ []

-- the name of the type that an operation gives, at the type of this name
abbrev pub given : List ℕ → Gives → List ℕ
given name Same = name
given name Truth = codes "bool"
given name Places = codes "u32"

-- an operation as it is listed at the type of this name
abbrev pub listed : List ℕ → Operation → NumericOp
listed name op = record {
  name = (row op).name;
  ret = given name (row op).gives;
  partial = (row op).is_partial;
  args = arguments name (row op).takes;
  body = (row op).body;
  etors = is_predicate op;
}

-- the list of a type's operations
abbrev pub ops_for : NumericType → List NumericOp
ops_for ty = map (listed (type_name (int_type ty))) (operations ty.signed)
