-- Numbers of a type, and the 128 bits that carry them.
use Rattle.std.proofs.Common.{◌≡◌, ℕ, ◌%◌, ◌^◌, ◌<◌, Bool, true, false, cond, refl, sym, ap, ◌∙◌, arith}
use Rattle.std.specs.Prelude.{ℤ, pos, negsuc, neg_ℤ, ◌+ℤ◌, ◌-ℤ◌, ◌*ℤ◌}
use Rattle.std.specs.Int.{Width, w8, w16, w32, w64, w128, cast_signed, cast_unsigned, int_wrap, int_wrapping_add, int_wrapping_sub, int_wrapping_mul, int_wrapping_neg}
use Rattle.std.specs.Int.RustNames.{FitsSigned}
use Rattle.std.proofs.Math.Nat.{mod-eq_of_lt}
use Rattle.std.proofs.lemmas.Int.{ints, to_z-of_z, int_wrap_fits, wrapping_add_is, wrapping_sub_is, wrapping_mul_is, wrapping_neg_is, int_wrap-add_left, int_wrap-add_right, int_wrap-sub_right, int_wrap-mul_left, int_wrap-mul_right}
use borrow.Author.Differences.{same_in, same_out, sum_is_lem, product_is}
use mir.Val.{bits}
use Rattle.isle_core.specs.declared.types.IntType.{IntType}
use Rattle.isle_core.specs.Int.{width, is_signed, wrapped}
use Rattle.isle_spelling.specs.Literal.{of_bits}
use Rattle.isle_spelling.proofs.Wraps.{wraps, wraps_only, wrapped-low}
use Rattle.isle_core.specs.declared.types.IntType.TheVariants.{I128}
use Rattle.isle_numerics.specs.Meaning.{carried, number_of, reduced}

-- a number of the type's bits is one of 128
pub below_128 : (w : Width) (n : ℕ) → n < 2 ^ bits w → n < 2 ^ 128
below_128 w8 n h = omega (arith, h)
below_128 w16 n h = omega (arith, h)
below_128 w32 n h = omega (arith, h)
below_128 w64 n h = omega (arith, h)
below_128 w128 n h = h

-- a number without a sign, carried
pub carried_pos : (n : ℕ) → n < 2 ^ 128 → carried (pos n) ≡ cast_signed w128 n
unfolding int_wrap
carried_pos n h = ap (cast_signed w128) (mod-eq_of_lt h)

pub unsigned_carried : (ty : IntType) (n : ℕ) → is_signed ty ≡ false → n < 2 ^ bits (width ty) → cast_signed w128 n ≡ carried (of_bits ty n)
unsigned_carried ty n e h = rw e (sym (carried_pos n (below_128 (width ty) n h)))

pub low_reduced : (ty : IntType) (z : ℤ) → FitsSigned w128 z → carried (of_bits ty (cast_unsigned w128 z % 2 ^ bits (width ty))) ≡ reduced ty z
low_reduced ty z f = ap carried (wrapped-low ty z f)

pub unsigned_reduced : (ty : IntType) (n : ℕ) → carried (of_bits ty (n % 2 ^ bits (width ty))) ≡ reduced ty (pos n)
unfolding wrapped
unsigned_reduced ty n = refl

-- ---- wrapping to 128 bits first changes nothing

Multiple : Width → ℤ → ℤ → Type 0
Multiple w z n = (k : ℤ) × (z ≡ n +ℤ (k *ℤ pos (2 ^ bits w)))

-- a multiple of the widest limit is one of each
also : (w : Width) (z y n : ℤ) → Multiple w128 z y → Multiple w y n → Multiple w z n
unfolding Multiple
also w8 z y n j k = ((j.0 *ℤ pos (2 ^ 120)) +ℤ k.0, same_in _ _ (omega (arith, same_out, sum_is_lem, product_is, j.1, k.1)))
also w16 z y n j k = ((j.0 *ℤ pos (2 ^ 112)) +ℤ k.0, same_in _ _ (omega (arith, same_out, sum_is_lem, product_is, j.1, k.1)))
also w32 z y n j k = ((j.0 *ℤ pos (2 ^ 96)) +ℤ k.0, same_in _ _ (omega (arith, same_out, sum_is_lem, product_is, j.1, k.1)))
also w64 z y n j k = ((j.0 *ℤ pos (2 ^ 64)) +ℤ k.0, same_in _ _ (omega (arith, same_out, sum_is_lem, product_is, j.1, k.1)))
also w128 z y n j k = (j.0 +ℤ k.0, same_in _ _ (omega (arith, same_out, sum_is_lem, product_is, j.1, k.1)))

wrapped_128 : (z : ℤ) → wrapped I128 z ≡ int_wrap w128 z
unfolding wrapped int_wrap
wrapped_128 z = refl

near : (z : ℤ) → Multiple w128 z (wrapped I128 z)
unfolding Multiple
near z = (wraps I128 z).congruent

of_multiple : (ty : IntType) (z y : ℤ) → Multiple w128 z y → wrapped ty y ≡ wrapped ty z
unfolding Multiple
of_multiple ty z y j = wraps_only ty z (wrapped ty y) (record { within = (wraps ty y).within; congruent = also (width ty) z y (wrapped ty y) j (wraps ty y).congruent })

pub narrow : (ty : IntType) (z : ℤ) → wrapped ty (int_wrap w128 z) ≡ wrapped ty z
narrow ty z = ap (wrapped ty) (sym (wrapped_128 z)) ∙ of_multiple ty z (wrapped I128 z) (near z)

-- ---- the numbers that arguments stand for

back_by : (b : Bool) (z : ℤ) → FitsSigned w128 z → int_wrap w128 (cond b z (pos (cast_unsigned w128 z))) ≡ z
back_by true z f = int_wrap_fits w128 z f
back_by false z f = carried_pos (cast_unsigned w128 z) (below z f) ∙ to_z-of_z w128 z f
  where
    below : (y : ℤ) → FitsSigned w128 y → cast_unsigned w128 y < 2 ^ 128
    below (pos n) g = omega (arith, g.sfits)
    below (negsuc n) g = omega (arith, g.sfits)

-- an argument's number is the argument, but for a multiple
pub back : (ty : IntType) (z : ℤ) → FitsSigned w128 z → int_wrap w128 (number_of ty z) ≡ z
back ty z f = back_by (is_signed ty) z f

pub sum_reduced : (ty : IntType) (a b : ℤ) → FitsSigned w128 a → FitsSigned w128 b → reduced ty (int_wrapping_add w128 a b) ≡ reduced ty (number_of ty a +ℤ number_of ty b)
sum_reduced ty a b f g =
    let x = number_of ty a in
    let y = number_of ty b in
    let one : int_wrap w128 (int_wrap w128 x +ℤ int_wrap w128 y) ≡ int_wrap w128 (x +ℤ y) =
    int_wrap-add_left w128 x (int_wrap w128 y) ∙ int_wrap-add_right w128 x y in
    let two : int_wrap w128 (int_wrap w128 x +ℤ int_wrap w128 y) ≡ int_wrap w128 (a +ℤ b) =
    ap (λ z. int_wrap w128 (z +ℤ int_wrap w128 y)) (back ty a f) ∙ ap (λ z. int_wrap w128 (a +ℤ z)) (back ty b g) in
    ap (reduced ty) (wrapping_add_is w128 a b f g ∙ sym two ∙ one) ∙ ap carried (narrow ty (x +ℤ y))

pub difference_reduced : (ty : IntType) (a b : ℤ) → FitsSigned w128 a → FitsSigned w128 b → reduced ty (int_wrapping_sub w128 a b) ≡ reduced ty (number_of ty a -ℤ number_of ty b)
difference_reduced ty a b f g =
    let x = number_of ty a in
    let y = number_of ty b in
    let one : int_wrap w128 (int_wrap w128 x -ℤ int_wrap w128 y) ≡ int_wrap w128 (x -ℤ y) =
    int_wrap-add_left w128 x (neg_ℤ (int_wrap w128 y)) ∙ int_wrap-sub_right w128 x y in
    let two : int_wrap w128 (int_wrap w128 x -ℤ int_wrap w128 y) ≡ int_wrap w128 (a -ℤ b) =
    ap (λ z. int_wrap w128 (z -ℤ int_wrap w128 y)) (back ty a f) ∙ ap (λ z. int_wrap w128 (a -ℤ z)) (back ty b g) in
    ap (reduced ty) (wrapping_sub_is w128 a b f g ∙ sym two ∙ one) ∙ ap carried (narrow ty (x -ℤ y))

pub product_reduced : (ty : IntType) (a b : ℤ) → FitsSigned w128 a → FitsSigned w128 b → reduced ty (int_wrapping_mul w128 a b) ≡ reduced ty (number_of ty a *ℤ number_of ty b)
product_reduced ty a b f g =
    let x = number_of ty a in
    let y = number_of ty b in
    let one : int_wrap w128 (int_wrap w128 x *ℤ int_wrap w128 y) ≡ int_wrap w128 (x *ℤ y) =
    int_wrap-mul_left w128 x (int_wrap w128 y) ∙ int_wrap-mul_right w128 x y in
    let two : int_wrap w128 (int_wrap w128 x *ℤ int_wrap w128 y) ≡ int_wrap w128 (a *ℤ b) =
    ap (λ z. int_wrap w128 (z *ℤ int_wrap w128 y)) (back ty a f) ∙ ap (λ z. int_wrap w128 (a *ℤ z)) (back ty b g) in
    ap (reduced ty) (wrapping_mul_is w128 a b f g ∙ sym two ∙ one) ∙ ap carried (narrow ty (x *ℤ y))

-- ---- a sign turned, as a number taken from 0

from_zero : (z : ℤ) → pos 0 -ℤ z ≡ neg_ℤ z
from_zero (pos n) = same_in (pos 0 -ℤ pos n) (neg_ℤ (pos n)) (omega (arith, ints))
from_zero (negsuc n) = same_in (pos 0 -ℤ negsuc n) (neg_ℤ (negsuc n)) (omega (arith, ints))

turned_128 : (z : ℤ) → int_wrap w128 (neg_ℤ (int_wrap w128 z)) ≡ int_wrap w128 (neg_ℤ z)
turned_128 z =
    ap (int_wrap w128) (sym (from_zero (int_wrap w128 z))) ∙ int_wrap-sub_right w128 (pos 0) z ∙ ap (int_wrap w128) (from_zero z)

pub opposite_reduced : (ty : IntType) (a : ℤ) → FitsSigned w128 a → reduced ty (int_wrapping_neg w128 a) ≡ reduced ty (neg_ℤ (number_of ty a))
opposite_reduced ty a f =
    let x = number_of ty a in
    ap (reduced ty) (wrapping_neg_is w128 a f ∙ ap (λ z. int_wrap w128 (neg_ℤ z)) (sym (back ty a f)) ∙ turned_128 x) ∙ ap carried (narrow ty (neg_ℤ x))
