-- Wrapping a number to a type: it is of the type, differs by a multiple, and is the only such number.
use Rattle.std.proofs.Common.{◌≡◌, ℕ, suc, ◌+◌, ◌-◌, ◌*◌, ◌/◌, ◌%◌, ◌^◌, ◌<◌, ◌≤◌, Bool, true, false, cond, refl, sym, ap, ◌∙◌, arith, ⊎_elim}
use Rattle.std.specs.Prelude.{ℤ, pos, negsuc, ◌+ℤ◌}
use Rattle.std.specs.Int.{Width, w8, w16, w32, w64, w128, cast_signed, cast_unsigned, int_wrap}
use Rattle.std.specs.Int.RustNames.{FitsSigned, unsigned_abs}
use Rattle.std.proofs.Math.Nat.{mul-le-mul_right, mod-lt, div-add-mod'}
use Rattle.std.proofs.lemmas.Bool.{cases_lt, lt-ltb, le-ltb}
use Rattle.std.proofs.lemmas.Int.{int_rem_euclid_is, SFits-int_wrap}
use borrow.Author.Differences.{up, down, same_in, same_out, sum_is_lem, product_is, fits_out}
use mir.Val.{bits, hbits}
use lib.Pow.{pow_pos}
use lib.IntN.{◌*ℤ◌}
use Rattle.isle_core.specs.declared.types.IntType.{IntType}
use Rattle.isle_core.specs.Int.{width, is_signed, IsBelow, WrapsTo, residue, wrapped}
use Rattle.isle_spelling.specs.Literal.{of_bits}

-- a multiple of the width's limit
Multiple : Width → ℤ → ℤ → Type 0
Multiple w z n = (k : ℤ) × (z ≡ n +ℤ (k *ℤ pos (2 ^ bits w)))

pub residue_below : (w : Width) (z : ℤ) → residue w z < 2 ^ bits w
residue_below w (pos a) = mod-lt a (pow_pos (bits w))
residue_below w (negsuc a) = let some = pow_pos (bits w) in omega (arith, mod-lt a some)

-- what is left, and the multiple that was taken away
residue_differs : (w : Width) (z : ℤ) → (k : ℤ) × (z ≡ pos (residue w z) +ℤ (k *ℤ pos (2 ^ bits w)))
residue_differs w (pos a) =
    let m = 2 ^ bits w in
    (pos (a / m), same_in _ _ (omega (arith, sum_is_lem, product_is, div-add-mod' a m)))
residue_differs w (negsuc a) =
    let m = 2 ^ bits w in
    let small = mod-lt a (pow_pos (bits w)) in
    (negsuc (a / m), same_in _ _ (omega (arith, sum_is_lem, product_is, div-add-mod' a m)))

-- ---- two numbers that differ by a multiple and lie near each other are one

nearer : (x y i j m : ℕ) → x + i * m ≡ y + j * m → x < y + m → y < x + m → x ≡ y
nearer x y i j m e above below =
    ⊎_elim
    (λ less. let far : suc i * m ≤ j * m = mul-le-mul_right m less in absurd (omega arith))
    (λ more. ⊎_elim
    (λ less. let far : suc j * m ≤ i * m = mul-le-mul_right m less in absurd (omega arith))
    (λ other. let same : i ≡ j = omega arith in omega (arith, ap (λ k. k * m) same))
    (cases_lt j i))
    (cases_lt i j)

-- both n and p differ from z by a multiple of m
near_same : (z n p k j : ℤ) (m : ℕ) → z ≡ n +ℤ (k *ℤ pos m) → z ≡ p +ℤ (j *ℤ pos m) → up n + down p < up p + down n + m → up p + down n < up n + down p + m → n ≡ p
near_same z n p k j m e f above below =
    same_in n p (nearer (up n + down p) (up p + down n) (up k + down j) (up j + down k) m (omega (arith, same_out, sum_is_lem, product_is)) above below)

pub double : (w : Width) → 2 ^ hbits w + 2 ^ hbits w ≡ 2 ^ bits w
double w8 = refl
double w16 = refl
double w32 = refl
double w64 = refl
double w128 = refl

signed_once : (w : Width) (z n p : ℤ) → FitsSigned w n → FitsSigned w p → Multiple w z n → Multiple w z p → n ≡ p
unfolding Multiple
signed_once w z n p f g j k =
    near_same z n p j.0 k.0 (2 ^ bits w) j.1 k.1 (omega (arith, fits_out w n f, fits_out w p g, double w)) (omega (arith, fits_out w n f, fits_out w p g, double w))

unsigned_once : (w : Width) (z n p : ℤ) → IsBelow (2 ^ bits w) n → IsBelow (2 ^ bits w) p → Multiple w z n → Multiple w z p → n ≡ p
unfolding Multiple
unsigned_once w z (pos n) (pos p) f g j k = near_same z (pos n) (pos p) j.0 k.0 (2 ^ bits w) j.1 k.1 (omega (arith, f)) (omega (arith, g))
unsigned_once w z (pos n) (negsuc p) f g j k = absurd g
unsigned_once w z (negsuc n) p f g j k = absurd f

once : (b : Bool) (w : Width) (z n p : ℤ)
    → cond b (FitsSigned w n) (IsBelow (2 ^ bits w) n) → cond b (FitsSigned w p) (IsBelow (2 ^ bits w) p) → Multiple w z n → Multiple w z p → n ≡ p
once true = signed_once
once false = unsigned_once

-- at most one number of a type differs by a multiple
pub wraps_once : (ty : IntType) (z n m : ℤ) → WrapsTo ty z n → WrapsTo ty z m → n ≡ m
unfolding Multiple
wraps_once ty z n m f g = once (is_signed ty) (width ty) z n m f.within g.within f.congruent g.congruent

-- ---- the number that is taken

-- the number that bits stand for differs from them by a multiple
cast_differs : (w : Width) (n : ℕ) → n < 2 ^ bits w → (k : ℤ) × (pos n ≡ cast_signed w n +ℤ (k *ℤ pos (2 ^ bits w)))
cast_differs w n h =
    ⊎_elim
    (λ low. (pos 0, rw (lt-ltb n (2 ^ hbits w) low) (same_in _ _ (omega (arith, sum_is_lem, product_is)))))
    (λ high. (pos 1, rw (le-ltb n (2 ^ hbits w) high) (same_in _ _ (omega (arith, sum_is_lem, product_is)))))
    (cases_lt n (2 ^ hbits w))

joined : (w : Width) (z n p : ℤ) → Multiple w z n → Multiple w n p → Multiple w z p
unfolding Multiple
joined w z n p j k =
    let sum : up (j.0 +ℤ k.0) + down j.0 + down k.0 ≡ up j.0 + up k.0 + down (j.0 +ℤ k.0) = omega (arith, sum_is_lem j.0 k.0) in
    let grown = ap (λ x. x * 2 ^ bits w) sum in
    (j.0 +ℤ k.0, same_in _ _ (omega (arith, same_out, sum_is_lem, product_is, j.1, k.1, grown)))

-- the number that is taken, by whether the type is signed
taken : Bool → Width → ℤ → ℤ
taken b w z = cond b (cast_signed w (residue w z)) (pos (residue w z))

taken_within : (b : Bool) (w : Width) (z : ℤ) → cond b (FitsSigned w (taken b w z)) (IsBelow (2 ^ bits w) (taken b w z))
unfolding taken int_wrap
taken_within true w z = SFits-int_wrap w z
taken_within false w z = residue_below w z

taken_differs : (b : Bool) (w : Width) (z : ℤ) → Multiple w z (taken b w z)
unfolding taken Multiple
taken_differs true w z = joined w z (pos (residue w z)) _ (residue_differs w z) (cast_differs w (residue w z) (residue_below w z))
taken_differs false w z = residue_differs w z

-- each number wraps to the one that is taken
pub wraps : (ty : IntType) (z : ℤ) → WrapsTo ty z (wrapped ty z)
unfolding wrapped taken Multiple
wraps ty z = record { within = taken_within (is_signed ty) (width ty) z; congruent = taken_differs (is_signed ty) (width ty) z }

-- and to no other
pub wraps_only : (ty : IntType) (z n : ℤ) → WrapsTo ty z n → n ≡ wrapped ty z
wraps_only ty z n h = wraps_once ty z n (wrapped ty z) h (wraps ty z)

-- ---- what is left of 128 bits

fits_in_128 : (w : Width) → (k : ℕ) × (k * 2 ^ bits w ≡ 2 ^ 128)
fits_in_128 w8 = (2 ^ 120, refl)
fits_in_128 w16 = (2 ^ 112, refl)
fits_in_128 w32 = (2 ^ 96, refl)
fits_in_128 w64 = (2 ^ 64, refl)
fits_in_128 w128 = (1, refl)

lifted : (n m : ℕ) → suc n ≤ m → negsuc n +ℤ pos m ≡ pos (m - suc n)
lifted n m h = same_in (negsuc n +ℤ pos m) (pos (m - suc n)) (omega (arith, sum_is_lem (negsuc n) (pos m)))

pub residue-cast : (w : Width) (z : ℤ) → FitsSigned w128 z → residue w z ≡ cast_unsigned w128 z % 2 ^ bits w
residue-cast w (pos n) f = refl
residue-cast w (negsuc n) f =
    let k = fits_in_128 w in
    let whole = k.1 in
    let small : suc n ≤ 2 ^ 128 = omega (arith, f.sfits) in
    ap unsigned_abs (int_rem_euclid_is (negsuc n) (pos (2 ^ bits w)) (2 ^ bits w) k.0 (2 ^ 128 - suc n) (pow_pos (bits w)) refl (ap (λ m. negsuc n +ℤ pos m) whole ∙ lifted n (2 ^ 128) small))

-- the low bits of a number of 128 bits are those of the number that is taken
pub wrapped-low : (ty : IntType) (z : ℤ) → FitsSigned w128 z → of_bits ty (cast_unsigned w128 z % 2 ^ bits (width ty)) ≡ wrapped ty z
unfolding wrapped
wrapped-low ty z f = ap (of_bits ty) (sym (residue-cast (width ty) z f))
