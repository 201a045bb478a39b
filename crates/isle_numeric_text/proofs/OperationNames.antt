-- The names of operations are of bytes that may stand in a word.
use Rattle.std.proofs.Common.{ℕ, suc, zero, List, [], ◌∷◌, drop, refl}
use Rattle.std.proofs.lemmas.Bool.{and_parts}
use Rattle.isle_numerics.specs.declared.operation.Comparison.TheVariants.{Eq, Ne, Lt, LtEq, Gt, GtEq}
use Rattle.isle_numerics.specs.declared.operation.Arithmetic.TheVariants.{CheckedAdd, WrappingAdd, Add, CheckedSub, WrappingSub, Sub, CheckedMul, WrappingMul, Mul, CheckedDiv, WrappingDiv, Div, CheckedRem, Rem}
use Rattle.isle_numerics.specs.declared.operation.Bitwise.TheVariants.{And, Or, Xor, Not}
use Rattle.isle_numerics.specs.declared.operation.Shift.TheVariants.{CheckedShl, WrappingShl, Shl, CheckedShr, WrappingShr, Shr, Rotl, Rotr}
use Rattle.isle_numerics.specs.declared.operation.Predicate.TheVariants.{Zero, NonZero, Odd, Even, PowerOfTwo}
use Rattle.isle_numerics.specs.declared.operation.Count.TheVariants.{CheckedIlog2, Ilog2, TrailingZeros, TrailingOnes, LeadingZeros, LeadingOnes}
use Rattle.isle_numerics.specs.declared.operation.Negation.TheVariants.{CheckedNeg, WrappingNeg, Neg}
use Rattle.isle_numerics.specs.declared.operation.Operation.{Operation}
use Rattle.isle_numerics.specs.declared.operation.Operation.TheVariants.{Compare, Compute, Bits, Move, Ask, Tally, Negate}
use Rattle.isle_numerics.specs.Operations.{row}
use Rattle.isle_numerics.specs.Definitions.{asked}
use Rattle.isle_writing.specs.Writable.{is_plain_byte, IsPlain}

pub row_plain : (op : Operation) → IsPlain (row op).name
row_plain (Compare Eq) = refl
row_plain (Compare Ne) = refl
row_plain (Compare Lt) = refl
row_plain (Compare LtEq) = refl
row_plain (Compare Gt) = refl
row_plain (Compare GtEq) = refl
row_plain (Compute CheckedAdd) = refl
row_plain (Compute WrappingAdd) = refl
row_plain (Compute Add) = refl
row_plain (Compute CheckedSub) = refl
row_plain (Compute WrappingSub) = refl
row_plain (Compute Sub) = refl
row_plain (Compute CheckedMul) = refl
row_plain (Compute WrappingMul) = refl
row_plain (Compute Mul) = refl
row_plain (Compute CheckedDiv) = refl
row_plain (Compute WrappingDiv) = refl
row_plain (Compute Div) = refl
row_plain (Compute CheckedRem) = refl
row_plain (Compute Rem) = refl
row_plain (Bits And) = refl
row_plain (Bits Or) = refl
row_plain (Bits Xor) = refl
row_plain (Bits Not) = refl
row_plain (Move CheckedShl) = refl
row_plain (Move WrappingShl) = refl
row_plain (Move Shl) = refl
row_plain (Move CheckedShr) = refl
row_plain (Move WrappingShr) = refl
row_plain (Move Shr) = refl
row_plain (Move Rotl) = refl
row_plain (Move Rotr) = refl
row_plain (Ask Zero) = refl
row_plain (Ask NonZero) = refl
row_plain (Ask Odd) = refl
row_plain (Ask Even) = refl
row_plain (Ask PowerOfTwo) = refl
row_plain (Tally CheckedIlog2) = refl
row_plain (Tally Ilog2) = refl
row_plain (Tally TrailingZeros) = refl
row_plain (Tally TrailingOnes) = refl
row_plain (Tally LeadingZeros) = refl
row_plain (Tally LeadingOnes) = refl
row_plain (Negate CheckedNeg) = refl
row_plain (Negate WrappingNeg) = refl
row_plain (Negate Neg) = refl

plain_rest : (n : ℕ) (w : List ℕ) → IsPlain w → IsPlain (drop n w)
plain_rest zero w h = h
plain_rest (suc n) [] h = h
plain_rest (suc n) (b ∷ w) h = plain_rest n w (and_parts (is_plain_byte b) _ h).1

-- what a predicate is of
pub asked_plain : (op : Operation) → IsPlain (asked op)
asked_plain op = plain_rest 3 (row op).name (row_plain op)
