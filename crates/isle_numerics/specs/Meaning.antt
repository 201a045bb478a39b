-- What each operation means, over whole numbers.
use Rattle.std.specs.Prelude.{ℕ, ◌-◌, ◌%◌, ◌^◌, ℤ, pos, negsuc, neg_ℤ, ◌+ℤ◌, ◌-ℤ◌, ◌*ℤ◌, List, Bool, false, not, ◌==◌, ◌&&◌, nat_lt, int_lt, int_le, unsigned_abs, int_div, int_rem, Option, Some, None, find, if◌then◌else◌}
use Rattle.std.specs.Int.{w128, cast_unsigned, int_wrap, int_div_euclid}
use lib.Count.{count_leading_zeros, count_trailing_zeros}
use mir.Val.{bits, hbits}
use Rattle.isle_core.specs.declared.types.IntType.{IntType}
use Rattle.isle_core.specs.Int.{is_signed, residue, width, wrapped}
use Rattle.isle_printer.specs.Bytes.{same_bytes}
use Rattle.isle_numerics.specs.declared.numeric_type.NumericType.{NumericType}
use Rattle.isle_numerics.specs.declared.eval.OpResult.{OpResult}
use Rattle.isle_numerics.specs.declared.eval.OpResult.TheVariants.{Number, Flag, Nothing, Panic}
use Rattle.isle_numerics.specs.declared.operation.Comparison.{Comparison}
use Rattle.isle_numerics.specs.declared.operation.Comparison.TheVariants.{Eq, Ne, Lt, LtEq, Gt, GtEq}
use Rattle.isle_numerics.specs.declared.operation.Arithmetic.{Arithmetic}
use Rattle.isle_numerics.specs.declared.operation.Arithmetic.TheVariants.{CheckedAdd, WrappingAdd, Add, CheckedSub, WrappingSub, Sub, CheckedMul, WrappingMul, Mul, CheckedDiv, WrappingDiv, Div, CheckedRem, Rem}
use Rattle.isle_numerics.specs.declared.operation.Bitwise.{Bitwise}
use Rattle.isle_numerics.specs.declared.operation.Bitwise.TheVariants.{And, Or, Xor, Not}
use Rattle.isle_numerics.specs.declared.operation.Shift.{Shift}
use Rattle.isle_numerics.specs.declared.operation.Shift.TheVariants.{CheckedShl, WrappingShl, Shl, CheckedShr, WrappingShr, Shr, Rotl, Rotr}
use Rattle.isle_numerics.specs.declared.operation.Predicate.{Predicate}
use Rattle.isle_numerics.specs.declared.operation.Predicate.TheVariants.{Zero, NonZero, Odd, Even, PowerOfTwo}
use Rattle.isle_numerics.specs.declared.operation.Count.{Count}
use Rattle.isle_numerics.specs.declared.operation.Count.TheVariants.{CheckedIlog2, Ilog2, TrailingZeros, TrailingOnes, LeadingZeros, LeadingOnes}
use Rattle.isle_numerics.specs.declared.operation.Negation.{Negation}
use Rattle.isle_numerics.specs.declared.operation.Negation.TheVariants.{CheckedNeg, WrappingNeg, Neg}
use Rattle.isle_numerics.specs.declared.operation.Operation.{Operation}
use Rattle.isle_numerics.specs.declared.operation.Operation.TheVariants.{Compare, Compute, Bits, Move, Ask, Tally, Negate}
use Rattle.isle_numerics.specs.NumericTypes.{int_type}
use Rattle.isle_numerics.specs.Operations.{row}
use Rattle.isle_numerics.specs.Table.{operations}
use Rattle.isle_numerics.specs.Bits.{of_places, both, either, differs, opposite, turned, log2, is_power}

-- ---- numbers of a type, and the 128 signed bits that carry them

-- the number that an argument stands for: of an unsigned type, its 128 bits without a sign
abbrev pub number_of : IntType → ℤ → ℤ
number_of ty z = if is_signed ty then z else pos (cast_unsigned w128 z)

-- a number as 128 signed bits: itself, but for those of u128 from 2 to the power 127 on
abbrev pub carried : ℤ → ℤ
carried z = int_wrap w128 z

-- above each number of the type, and not below the magnitude of any
abbrev pub limit : IntType → ℕ
limit ty = if is_signed ty then 2 ^ hbits (width ty) else 2 ^ bits (width ty)

-- a number of the type: below its limit, and if it is signed, not below the limit's negative
abbrev pub is_value : IntType → ℤ → Bool
is_value ty (pos n) = nat_lt n (limit ty)
is_value ty (negsuc n) = is_signed ty && nat_lt n (limit ty)

-- the bits of a number in the type's width, as a number without a sign
abbrev pub pattern : IntType → ℤ → ℕ
pattern ty z = residue (width ty) z

-- the number of the type that z wraps to, carried
abbrev pub reduced : IntType → ℤ → ℤ
reduced ty z = carried (wrapped ty z)

-- z, if it is a number of the type
abbrev pub exact : IntType → ℤ → Option ℤ
exact ty z = if is_value ty z then Some (carried z) else None

-- a number, or nothing
abbrev pub checked : Option ℤ → OpResult
checked (Some n) = Number n
checked None = Nothing

-- a number, or a stop of the program
abbrev pub expected : Option ℤ → OpResult
expected (Some n) = Number n
expected None = Panic

-- ---- two numbers

-- how two numbers compare
abbrev pub comparison : Comparison → ℤ → ℤ → Bool
comparison Eq x y = int_le x y && int_le y x
comparison Ne x y = not (int_le x y && int_le y x)
comparison Lt x y = int_lt x y
comparison LtEq x y = int_le x y
comparison Gt x y = int_lt y x
comparison GtEq x y = int_le y x

-- the number is 0
abbrev pub is_zero : ℤ → Bool
is_zero (pos n) = n == 0
is_zero (negsuc n) = false

-- the quotient, rounded toward zero: none at divisor 0, and none where it isn't of the type
abbrev pub quotient : IntType → ℤ → ℤ → Option ℤ
quotient ty x y = if is_zero y then None else exact ty (int_div x y)

-- what division leaves, with the sign of x: none where there is no quotient
abbrev pub remainder : IntType → ℤ → ℤ → Option ℤ
remainder ty x y =
    if is_zero y then None else if is_value ty (int_div x y) then Some (carried (int_rem x y)) else None

-- the quotient, wrapped; a stop at divisor 0
abbrev pub wrapped_quotient : IntType → ℤ → ℤ → OpResult
wrapped_quotient ty x y = if is_zero y then Panic else Number (reduced ty (int_div x y))

-- what is computed of two numbers
abbrev pub arithmetic : IntType → Arithmetic → ℤ → ℤ → OpResult
arithmetic ty CheckedAdd x y = checked (exact ty (x +ℤ y))
arithmetic ty WrappingAdd x y = Number (reduced ty (x +ℤ y))
arithmetic ty Add x y = expected (exact ty (x +ℤ y))
arithmetic ty CheckedSub x y = checked (exact ty (x -ℤ y))
arithmetic ty WrappingSub x y = Number (reduced ty (x -ℤ y))
arithmetic ty Sub x y = expected (exact ty (x -ℤ y))
arithmetic ty CheckedMul x y = checked (exact ty (x *ℤ y))
arithmetic ty WrappingMul x y = Number (reduced ty (x *ℤ y))
arithmetic ty Mul x y = expected (exact ty (x *ℤ y))
arithmetic ty CheckedDiv x y = checked (quotient ty x y)
arithmetic ty WrappingDiv x y = wrapped_quotient ty x y
arithmetic ty Div x y = expected (quotient ty x y)
arithmetic ty CheckedRem x y = checked (remainder ty x y)
arithmetic ty Rem x y = expected (remainder ty x y)

-- ---- bits

-- the number of the type with these bits in its places, carried
abbrev pub with_bits : IntType → (ℕ → ℕ) → ℤ
with_bits ty places = reduced ty (pos (of_places (bits (width ty)) places))

-- what is done bit by bit, in the places of the type
abbrev pub bitwise : IntType → Bitwise → ℤ → ℤ → ℤ
bitwise ty And x y = with_bits ty (both (pattern ty x) (pattern ty y))
bitwise ty Or x y = with_bits ty (either (pattern ty x) (pattern ty y))
bitwise ty Xor x y = with_bits ty (differs (pattern ty x) (pattern ty y))
bitwise ty Not x y = with_bits ty (opposite (pattern ty x))

-- x times 2 to the power of the amount, wrapped
abbrev pub shifted_left : IntType → ℤ → ℕ → ℤ
shifted_left ty x amount = reduced ty (x *ℤ pos (2 ^ amount))

-- x divided by 2 to the power of the amount, rounded down, so that its sign is kept
abbrev pub shifted_right : ℤ → ℕ → ℤ
shifted_right x amount = carried (int_div_euclid x (pos (2 ^ amount)))

-- the bits turned towards the high end
abbrev pub rotated_left : IntType → ℤ → ℕ → ℤ
rotated_left ty x amount = reduced ty (pos (turned (bits (width ty)) (pattern ty x) amount))

-- there is a number only if the amount is below the width
abbrev pub in_width : IntType → ℕ → ℤ → Option ℤ
in_width ty amount z = if nat_lt amount (bits (width ty)) then Some z else None

-- how bits are moved: a wrapping shift and a rotation take the amount modulo the width, and to turn by an amount towards
-- the low end is to turn by the rest of the width towards the high one
abbrev pub shift : IntType → Shift → ℤ → ℕ → OpResult
shift ty CheckedShl x n = checked (in_width ty n (shifted_left ty x n))
shift ty WrappingShl x n = Number (shifted_left ty x (n % bits (width ty)))
shift ty Shl x n = expected (in_width ty n (shifted_left ty x n))
shift ty CheckedShr x n = checked (in_width ty n (shifted_right x n))
shift ty WrappingShr x n = Number (shifted_right x (n % bits (width ty)))
shift ty Shr x n = expected (in_width ty n (shifted_right x n))
shift ty Rotl x n = Number (rotated_left ty x (n % bits (width ty)))
shift ty Rotr x n = Number (rotated_left ty x ((bits (width ty) - n % bits (width ty)) % bits (width ty)))

-- ---- one number

-- what is asked of a number
abbrev pub predicate : Predicate → ℤ → Bool
predicate Zero x = is_zero x
predicate NonZero x = not (is_zero x)
predicate Odd x = unsigned_abs x % 2 == 1
predicate Even x = unsigned_abs x % 2 == 0
predicate PowerOfTwo x = int_lt (pos 0) x && is_power (unsigned_abs x)

-- the greatest k with 2 to the power k not above x: none if x isn't above 0
abbrev pub logarithm : ℤ → Option ℤ
logarithm x = if int_lt (pos 0) x then Some (pos (log2 (unsigned_abs x))) else None

-- the bits of a number with 0 and 1 exchanged
abbrev pub opposite_pattern : IntType → ℤ → ℕ
opposite_pattern ty x = 2 ^ bits (width ty) - 1 - pattern ty x

-- what is counted of a number's bits, in the places of the type
abbrev pub count : IntType → Count → ℤ → OpResult
count ty CheckedIlog2 x = checked (logarithm x)
count ty Ilog2 x = expected (logarithm x)
count ty TrailingZeros x = Number (pos (count_trailing_zeros (bits (width ty)) (pattern ty x)))
count ty TrailingOnes x = Number (pos (count_trailing_zeros (bits (width ty)) (opposite_pattern ty x)))
count ty LeadingZeros x = Number (pos (count_leading_zeros (bits (width ty)) (pattern ty x)))
count ty LeadingOnes x = Number (pos (count_leading_zeros (bits (width ty)) (opposite_pattern ty x)))

-- how a sign is turned
abbrev pub negation : IntType → Negation → ℤ → OpResult
negation ty CheckedNeg x = checked (exact ty (neg_ℤ x))
negation ty WrappingNeg x = Number (reduced ty (neg_ℤ x))
negation ty Neg x = expected (exact ty (neg_ℤ x))

-- ---- an operation

-- what an operation gives of two arguments; the second one is a shift's amount, and ignored where there is but one
abbrev pub meaning_at : IntType → Operation → ℤ → ℤ → OpResult
meaning_at ty (Compare op) a b = Flag (comparison op (number_of ty a) (number_of ty b))
meaning_at ty (Compute op) a b = arithmetic ty op (number_of ty a) (number_of ty b)
meaning_at ty (Bits op) a b = Number (bitwise ty op (number_of ty a) (number_of ty b))
meaning_at ty (Move op) a b = shift ty op (number_of ty a) (unsigned_abs b)
meaning_at ty (Ask op) a b = Flag (predicate op (number_of ty a))
meaning_at ty (Tally op) a b = count ty op (number_of ty a)
meaning_at ty (Negate op) a b = negation ty op (number_of ty a)

-- the operation of this name among these
abbrev pub named : List ℕ → List Operation → Option Operation
named name ops = find (λ (op : Operation). same_bytes (row op).name name) ops

-- what an operation gives, if there is one
abbrev pub meaning_of : IntType → Option Operation → ℤ → ℤ → Option OpResult
meaning_of ty (Some op) a b = Some (meaning_at ty op a b)
meaning_of ty None a b = None

-- what the type's operation of this name gives, and none if it has no such operation
abbrev pub meaning : NumericType → List ℕ → ℤ → ℤ → Option OpResult
meaning ty name a b = meaning_of (int_type ty) (named name (operations ty.signed)) a b
