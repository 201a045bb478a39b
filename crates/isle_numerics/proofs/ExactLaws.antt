-- Results that are of the type, and what division leaves.
use Rattle.std.proofs.Common.{◌≡◌, ℕ, zero, suc, ◌/◌, ◌%◌, ◌^◌, ◌<◌, ◌≤◌, Bool, true, false, cond, refl, sym, ap, ◌∙◌, subst, arith, Some, None}
use Rattle.std.specs.Prelude.{ℤ, pos, negsuc, neg_ℤ}
use Rattle.std.specs.Int.{w128, cast_signed, cast_unsigned, int_wrap}
use Rattle.std.specs.Int.RustNames.{FitsSigned, int_div, int_rem, unsigned_abs}
use Rattle.std.proofs.Math.Nat.{mod-lt, mod-le, div-le_self}
use Rattle.std.proofs.lemmas.Bool.{lt-ltb, ne_eqb}
use Rattle.std.proofs.lemmas.Int.{to_z-of_z, int_wrap_fits}
use lib.Pow.{pow_pos}
use lib.Signed.{mag_rem}
use mir.Val.{bits}
use Rattle.isle_core.specs.declared.types.IntType.{IntType}
use Rattle.isle_core.specs.Int.{width, is_signed}
use Rattle.isle_numerics.specs.Meaning.{carried, number_of, reduced, exact, is_value, is_zero, quotient, remainder, wrapped_quotient}
use Rattle.isle_numerics.specs.declared.eval.OpResult.TheVariants.{Number}
use mathlib.Core.Path.{ap₂}
use Rattle.isle_numerics.proofs.WrapLaws.{below_128, carried_pos, narrow}

pub unsigned_some : (ty : IntType) (n : ℕ) → is_signed ty ≡ false → n % 2 ^ bits (width ty) ≡ n → Some (cast_signed w128 n) ≡ exact ty (pos n)
unsigned_some ty n e h =
    let small : n < 2 ^ bits (width ty) = subst (λ k. k < 2 ^ bits (width ty)) h (mod-lt n (pow_pos (bits (width ty)))) in
    rw (e, lt-ltb n (2 ^ bits (width ty)) small) (ap Some (sym (carried_pos n (below_128 (width ty) n small))))

-- ---- what division leaves

left_by : {X : Type 0} (b c : Bool) (q p r : X) → cond b None (cond c (Some q) None) ≡ Some p → Some r ≡ cond b None (cond c (Some r) None)
left_by true c q p r e = cc
left_by false true q p r e = refl
left_by false false q p r e = cc

-- where there is a quotient, something is left
pub left : (ty : IntType) (x y p : ℤ) → quotient ty x y ≡ Some p → Some (carried (int_rem x y)) ≡ remainder ty x y
left ty x y p e = left_by (is_zero y) (is_value ty (int_div x y)) (carried (int_div x y)) p (carried (int_rem x y)) e

rem_fits : (x y : ℤ) → FitsSigned w128 x → FitsSigned w128 (int_rem x y)
rem_fits x y f = record { sfits = omega (arith, f.sfits, mag_rem x y) }

pub signed_left : (ty : IntType) (a b p : ℤ) → FitsSigned w128 a → quotient ty a b ≡ Some p → Some (int_rem a b) ≡ remainder ty a b
signed_left ty a b p f e = ap Some (sym (int_wrap_fits w128 (int_rem a b) (rem_fits a b f))) ∙ left ty a b p e

pub unsigned_left : (ty : IntType) (x y : ℕ) (p : ℤ) → x < 2 ^ 128 → quotient ty (pos x) (pos y) ≡ Some p → Some (cast_signed w128 (x % y)) ≡ remainder ty (pos x) (pos y)
unsigned_left ty x y p h e =
    let small : x % y < 2 ^ 128 = omega (arith, h, mod-le x y) in
    ap Some (sym (carried_pos (x % y) small)) ∙ left ty (pos x) (pos y) p e

-- ---- the quotient of signed numbers, wrapped

neg_abs : (n : ℕ) → unsigned_abs (neg_ℤ (pos n)) ≡ n
neg_abs zero = refl
neg_abs (suc n) = refl

div_abs : (a b : ℤ) → unsigned_abs (int_div a b) ≤ unsigned_abs a
div_abs (pos a) (pos b) = div-le_self a b
div_abs (pos a) (negsuc b) = rw (neg_abs (a / suc b)) (div-le_self a (suc b))
div_abs (negsuc a) (pos b) = rw (neg_abs (suc a / b)) (div-le_self (suc a) b)
div_abs (negsuc a) (negsuc b) = div-le_self (suc a) (suc b)

abs_fits : (a : ℤ) → FitsSigned w128 a → unsigned_abs a ≤ 2 ^ 127
abs_fits (pos n) f = omega (arith, f.sfits)
abs_fits (negsuc n) f = omega (arith, f.sfits)

cast_wraps : (z : ℤ) → unsigned_abs z ≤ 2 ^ 127 → cast_signed w128 (cast_unsigned w128 z) ≡ int_wrap w128 z
cast_wraps (pos n) h = sym (carried_pos n (omega (arith, h)))
cast_wraps (negsuc n) h =
    let fits : FitsSigned w128 (negsuc n) = record { sfits = omega (arith, h) } in
    to_z-of_z w128 (negsuc n) fits ∙ sym (int_wrap_fits w128 (negsuc n) fits)

pub quotient_reduced : (ty : IntType) (a b : ℤ) → FitsSigned w128 a → reduced ty (cast_signed w128 (cast_unsigned w128 (int_div a b))) ≡ reduced ty (int_div a b)
quotient_reduced ty a b f =
    let bound : unsigned_abs (int_div a b) ≤ 2 ^ 127 = omega (arith, div_abs a b, abs_fits a f) in
    ap (reduced ty) (cast_wraps (int_div a b) bound) ∙ ap carried (narrow ty (int_div a b))

-- ---- as the code comes by them

number_unsigned : (ty : IntType) (a : ℤ) → is_signed ty ≡ false → number_of ty a ≡ pos (cast_unsigned w128 a)
number_unsigned ty a e = rw e refl

pub number_signed : (ty : IntType) (a : ℤ) → is_signed ty ≡ true → number_of ty a ≡ a
number_signed ty a e = rw e refl

unsigned_below : (y : ℤ) → FitsSigned w128 y → cast_unsigned w128 y < 2 ^ 128
unsigned_below (pos n) g = omega (arith, g.sfits)
unsigned_below (negsuc n) g = omega (arith, g.sfits)

pub signed_left_of : (ty : IntType) (a b p : ℤ) → is_signed ty ≡ true → FitsSigned w128 a
    → quotient ty (number_of ty a) (number_of ty b) ≡ Some p → Some (int_rem a b) ≡ remainder ty a b
signed_left_of ty a b p e f h =
    signed_left ty a b p f (ap₂ (quotient ty) (sym (number_signed ty a e)) (sym (number_signed ty b e)) ∙ h)

pub unsigned_left_of : (ty : IntType) (a b p : ℤ) → is_signed ty ≡ false → FitsSigned w128 a
    → quotient ty (number_of ty a) (number_of ty b) ≡ Some p
    → Some (cast_signed w128 (cast_unsigned w128 a % cast_unsigned w128 b)) ≡ remainder ty (number_of ty a) (number_of ty b)
unsigned_left_of ty a b p e f h =
    let x = number_unsigned ty a e in
    let y = number_unsigned ty b e in
    unsigned_left ty (cast_unsigned w128 a) (cast_unsigned w128 b) p (unsigned_below a f) (ap₂ (quotient ty) (sym x) (sym y) ∙ h)
    ∙ ap₂ (remainder ty) (sym x) (sym y)

not_zero : (b : ℤ) → ¬ (cast_unsigned w128 b ≡ 0) → is_zero b ≡ false
not_zero (pos zero) h = absurd (h refl)
not_zero (pos (suc n)) h = ne_eqb (suc n) 0 h
not_zero (negsuc n) h = refl

pub quotient_given : (ty : IntType) (a b r : ℤ) → ¬ (cast_unsigned w128 b ≡ 0) → r ≡ reduced ty (int_div a b) → Number r ≡ wrapped_quotient ty a b
quotient_given ty a b r h e = rw (not_zero b h) (ap Number e)
