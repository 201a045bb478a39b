-- The operations, row by row: name, what it takes and gives, whether it may give nothing, and its Rust body.
use Rattle.std.specs.Prelude.{ℕ, List, Bool, true, false, codes}
use Rattle.isle_numerics.specs.declared.operation.Comparison.{Comparison}
use Rattle.isle_numerics.specs.declared.operation.Comparison.TheVariants.{Eq, Ne, Lt, LtEq, Gt, GtEq}
use Rattle.isle_numerics.specs.declared.operation.Arithmetic.{Arithmetic}
use Rattle.isle_numerics.specs.declared.operation.Arithmetic.TheVariants.{CheckedAdd, WrappingAdd, Add, CheckedSub, WrappingSub, Sub, CheckedMul, WrappingMul, Mul, CheckedDiv, WrappingDiv, Div, CheckedRem, Rem}
use Rattle.isle_numerics.specs.declared.operation.Bitwise.{Bitwise}
use Rattle.isle_numerics.specs.declared.operation.Bitwise.TheVariants.{And, Or, Xor, Not}
use Rattle.isle_numerics.specs.declared.operation.Shift.{Shift}
use Rattle.isle_numerics.specs.declared.operation.Shift.TheVariants.{CheckedShl, WrappingShl, Shl, CheckedShr, WrappingShr, Shr, Rotl, Rotr}
use Rattle.isle_numerics.specs.declared.operation.Predicate.{Predicate}
use Rattle.isle_numerics.specs.declared.operation.Predicate.TheVariants.{Zero, NonZero, Odd, Even, PowerOfTwo}
use Rattle.isle_numerics.specs.declared.operation.Count.{Count}
use Rattle.isle_numerics.specs.declared.operation.Count.TheVariants.{CheckedIlog2, Ilog2, TrailingZeros, TrailingOnes, LeadingZeros, LeadingOnes}
use Rattle.isle_numerics.specs.declared.operation.Negation.{Negation}
use Rattle.isle_numerics.specs.declared.operation.Negation.TheVariants.{CheckedNeg, WrappingNeg, Neg}
use Rattle.isle_numerics.specs.declared.operation.Operation.{Operation}
use Rattle.isle_numerics.specs.declared.operation.Operation.TheVariants.{Compare, Compute, Bits, Move, Ask, Tally, Negate}
use Rattle.isle_numerics.specs.declared.operation.Takes.{Takes}
use Rattle.isle_numerics.specs.declared.operation.Takes.TheVariants.{One, Two, Amount}
use Rattle.isle_numerics.specs.declared.operation.Gives.{Gives}
use Rattle.isle_numerics.specs.declared.operation.Gives.TheVariants.{Same, Truth, Places}

-- what the table says of an operation
pub record Row : Type 0 where
  pub name : List ℕ
  pub takes : Takes
  pub gives : Gives
  pub is_partial : Bool
  pub body : List ℕ

-- an operation that always gives something, or stops the program
abbrev pub plain : List ℕ → Takes → Gives → List ℕ → Row
plain name takes gives body = record { name = name; takes = takes; gives = gives; is_partial = false; body = body }

-- an operation that may give nothing
abbrev pub partial : List ℕ → Takes → Gives → List ℕ → Row
partial name takes gives body = record { name = name; takes = takes; gives = gives; is_partial = true; body = body }

-- comparisons: (T T) bool
abbrev pub comparison_row : Comparison → Row
comparison_row Eq = plain (codes "eq") Two Truth (codes "a == b")
comparison_row Ne = plain (codes "ne") Two Truth (codes "a != b")
comparison_row Lt = plain (codes "lt") Two Truth (codes "a < b")
comparison_row LtEq = plain (codes "lt_eq") Two Truth (codes "a <= b")
comparison_row Gt = plain (codes "gt") Two Truth (codes "a > b")
comparison_row GtEq = plain (codes "gt_eq") Two Truth (codes "a >= b")

-- arithmetic: (T T) T
abbrev pub arithmetic_row : Arithmetic → Row
arithmetic_row CheckedAdd = partial (codes "checked_add") Two Same (codes "a.checked_add(b)")
arithmetic_row WrappingAdd = plain (codes "wrapping_add") Two Same (codes "a.wrapping_add(b)")
arithmetic_row Add = plain (codes "add") Two Same (codes "a.checked_add(b).unwrap_or_else(|| panic!(\"addition overflow: {a} + {b}\"))")
arithmetic_row CheckedSub = partial (codes "checked_sub") Two Same (codes "a.checked_sub(b)")
arithmetic_row WrappingSub = plain (codes "wrapping_sub") Two Same (codes "a.wrapping_sub(b)")
arithmetic_row Sub = plain (codes "sub") Two Same (codes "a.checked_sub(b).unwrap_or_else(|| panic!(\"subtraction overflow: {a} - {b}\"))")
arithmetic_row CheckedMul = partial (codes "checked_mul") Two Same (codes "a.checked_mul(b)")
arithmetic_row WrappingMul = plain (codes "wrapping_mul") Two Same (codes "a.wrapping_mul(b)")
arithmetic_row Mul = plain (codes "mul") Two Same (codes "a.checked_mul(b).unwrap_or_else(|| panic!(\"multiplication overflow: {a} * {b}\"))")
arithmetic_row CheckedDiv = partial (codes "checked_div") Two Same (codes "a.checked_div(b)")
arithmetic_row WrappingDiv = plain (codes "wrapping_div") Two Same (codes "a.wrapping_div(b)")
arithmetic_row Div = plain (codes "div") Two Same (codes "a.checked_div(b).unwrap_or_else(|| panic!(\"div failure: {a} / {b}\"))")
arithmetic_row CheckedRem = partial (codes "checked_rem") Two Same (codes "a.checked_rem(b)")
arithmetic_row Rem = plain (codes "rem") Two Same (codes "a.checked_rem(b).unwrap_or_else(|| panic!(\"rem failure: {a} % {b}\"))")

-- bit by bit: (T T) T, and not (T) T
abbrev pub bitwise_row : Bitwise → Row
bitwise_row And = plain (codes "and") Two Same (codes "a & b")
bitwise_row Or = plain (codes "or") Two Same (codes "a | b")
bitwise_row Xor = plain (codes "xor") Two Same (codes "a ^ b")
bitwise_row Not = plain (codes "not") One Same (codes "!a")

-- shifts and rotations: (T u32) T
abbrev pub shift_row : Shift → Row
shift_row CheckedShl = partial (codes "checked_shl") Amount Same (codes "a.checked_shl(b)")
shift_row WrappingShl = plain (codes "wrapping_shl") Amount Same (codes "a.wrapping_shl(b)")
shift_row Shl = plain (codes "shl") Amount Same (codes "a.checked_shl(b).unwrap_or_else(|| panic!(\"shl overflow: {a} << {b}\"))")
shift_row CheckedShr = partial (codes "checked_shr") Amount Same (codes "a.checked_shr(b)")
shift_row WrappingShr = plain (codes "wrapping_shr") Amount Same (codes "a.wrapping_shr(b)")
shift_row Shr = plain (codes "shr") Amount Same (codes "a.checked_shr(b).unwrap_or_else(|| panic!(\"shr overflow: {a} >> {b}\"))")
shift_row Rotl = plain (codes "rotl") Amount Same (codes "a.rotate_left(b)")
shift_row Rotr = plain (codes "rotr") Amount Same (codes "a.rotate_right(b)")

-- predicates: (T) bool
abbrev pub predicate_row : Predicate → Row
predicate_row Zero = plain (codes "is_zero") One Truth (codes "a == 0")
predicate_row NonZero = plain (codes "is_non_zero") One Truth (codes "a != 0")
predicate_row Odd = plain (codes "is_odd") One Truth (codes "a & 1 == 1")
predicate_row Even = plain (codes "is_even") One Truth (codes "a & 1 == 0")
predicate_row PowerOfTwo = plain (codes "is_power_of_two") One Truth (codes "a.is_power_of_two()")

-- counts of bits: (T) u32
abbrev pub count_row : Count → Row
count_row CheckedIlog2 = partial (codes "checked_ilog2") One Places (codes "a.checked_ilog2()")
count_row Ilog2 = plain (codes "ilog2") One Places (codes "a.checked_ilog2().unwrap_or_else(|| panic!(\"ilog2 overflow: {a}\"))")
count_row TrailingZeros = plain (codes "trailing_zeros") One Places (codes "a.trailing_zeros()")
count_row TrailingOnes = plain (codes "trailing_ones") One Places (codes "a.trailing_ones()")
count_row LeadingZeros = plain (codes "leading_zeros") One Places (codes "a.leading_zeros()")
count_row LeadingOnes = plain (codes "leading_ones") One Places (codes "a.leading_ones()")

-- negation, of signed types alone: (T) T
abbrev pub negation_row : Negation → Row
negation_row CheckedNeg = partial (codes "checked_neg") One Same (codes "a.checked_neg()")
negation_row WrappingNeg = plain (codes "wrapping_neg") One Same (codes "a.wrapping_neg()")
negation_row Neg = plain (codes "neg") One Same (codes "a.checked_neg().unwrap_or_else(|| panic!(\"negation overflow: {a}\"))")

-- the row of an operation
abbrev pub row : Operation → Row
row (Compare op) = comparison_row op
row (Compute op) = arithmetic_row op
row (Bits op) = bitwise_row op
row (Move op) = shift_row op
row (Ask op) = predicate_row op
row (Tally op) = count_row op
row (Negate op) = negation_row op
