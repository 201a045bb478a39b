-- Shifts and rotations.
use Rattle.std.proofs.Common.{◌≡◌, ℕ, ◌+◌, ◌-◌, ◌*◌, ◌/◌, ◌%◌, ◌^◌, ◌<◌, false, sym, ap, ◌∙◌, arith}
use Rattle.std.specs.Prelude.{ℤ, pos, negsuc, ◌*ℤ◌}
use Rattle.std.specs.Int.{w128, cast_signed, cast_unsigned, int_wrap}
use Rattle.std.specs.Int.RustNames.{FitsSigned}
use Rattle.std.proofs.Math.Nat.{mod-mod, mod-add-mod, div-le_self}
use Rattle.std.proofs.lemmas.Nat.{pow_below}
use Rattle.std.proofs.lemmas.Int.{to_z-of_z, wrapping_mul-bits, int_wrap-mul_left, int_wrap-mul_right}
use mir.Val.{bits}
use Rattle.isle_core.specs.declared.types.IntType.{IntType}
use Rattle.isle_core.specs.Int.{width, is_signed, wrapped}
use Rattle.isle_numerics.specs.Bits.{turned}
use Rattle.isle_numerics.specs.Meaning.{carried, number_of, reduced, shifted_right}
use Rattle.isle_numerics.proofs.WrapLaws.{carried_pos, narrow, back}

pub unsigned_below : (z : ℤ) → FitsSigned w128 z → cast_unsigned w128 z < 2 ^ 128
unsigned_below (pos n) g = omega (arith, g.sfits)
unsigned_below (negsuc n) g = omega (arith, g.sfits)

pub left_reduced : (ty : IntType) (a : ℤ) (n : ℕ) → FitsSigned w128 a → n < 128
    → reduced ty (cast_signed w128 ((cast_unsigned w128 a * 2 ^ n) % 2 ^ 128)) ≡ reduced ty (number_of ty a *ℤ pos (2 ^ n))
left_reduced ty a n f h =
    let x = number_of ty a in
    let m = cast_unsigned w128 a in
    let below : 2 ^ n < 2 ^ 128 = pow_below n 128 h in
    let one : cast_signed w128 ((m * 2 ^ n) % 2 ^ 128) ≡ int_wrap w128 (a *ℤ int_wrap w128 (pos (2 ^ n))) =
    wrapping_mul-bits w128 m (2 ^ n) (unsigned_below a f) below
    ∙ ap (λ z. int_wrap w128 (z *ℤ cast_signed w128 (2 ^ n))) (to_z-of_z w128 a f)
    ∙ ap (λ z. int_wrap w128 (a *ℤ z)) (sym (carried_pos (2 ^ n) below)) in
    let two : int_wrap w128 (a *ℤ pos (2 ^ n)) ≡ int_wrap w128 (x *ℤ pos (2 ^ n)) =
    ap (λ z. int_wrap w128 (z *ℤ pos (2 ^ n))) (sym (back ty a f)) ∙ int_wrap-mul_left w128 x (pos (2 ^ n)) in
    ap (reduced ty) (one ∙ int_wrap-mul_right w128 a (pos (2 ^ n)) ∙ two) ∙ ap carried (narrow ty (x *ℤ pos (2 ^ n)))

pub unsigned_right : (ty : IntType) (a : ℤ) (n : ℕ) → FitsSigned w128 a → is_signed ty ≡ false
    → cast_signed w128 (cast_unsigned w128 a / 2 ^ n) ≡ shifted_right (number_of ty a) n
unsigned_right ty a n f e =
    let u = cast_unsigned w128 a in
    let below : u / 2 ^ n < 2 ^ 128 = omega (arith, unsigned_below a f, div-le_self u (2 ^ n)) in
    rw e (sym (carried_pos (u / 2 ^ n) below))

wrapped_mod : (ty : IntType) (n : ℕ) → wrapped ty (pos (n % 2 ^ 128)) ≡ wrapped ty (pos n)
unfolding int_wrap
wrapped_mod ty n =
    sym (narrow ty (pos (n % 2 ^ 128))) ∙ ap (λ k. wrapped ty (cast_signed w128 k)) (mod-mod n (2 ^ 128)) ∙ narrow ty (pos n)

pub turned_reduced : (ty : IntType) (p n : ℕ)
    → reduced ty (pos (((p * 2 ^ n) % 2 ^ 128 + p / 2 ^ (bits (width ty) - n)) % 2 ^ 128)) ≡ reduced ty (pos (turned (bits (width ty)) p n))
turned_reduced ty p n =
    ap (λ k. reduced ty (pos k)) (mod-add-mod (p * 2 ^ n) (2 ^ 128) (p / 2 ^ (bits (width ty) - n)))
    ∙ ap carried (wrapped_mod ty (turned (bits (width ty)) p n))
