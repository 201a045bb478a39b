-- Counts of a number's bits in fewer places, and logarithms.
use Rattle.std.proofs.Common.{◌≡◌, ℕ, zero, suc, ◌+◌, ◌-◌, ◌*◌, ◌/◌, ◌%◌, ◌^◌, ◌<◌, ◌≤◌, Bool, true, false, cond, refl, sym, ap, ◌∙◌, arith, leb, eqb, ⊎_elim, Some}
use Rattle.std.specs.Prelude.{ℤ, pos, min, int_lt, unsigned_abs}
use Rattle.std.proofs.lemmas.Nat.{one_shl}
use Rattle.std.proofs.Math.Nat.{pow-suc, pow-le-pow_right}
use Rattle.std.proofs.lemmas.Bool.{cases_lt, leb-true, leb-false, lt-ltb}
use lib.Count.{count_leading_zeros, count_trailing_zeros, under, leading_of_zero, leading_le, trailing_le}
use Rattle.std.specs.Int.{Width, w8, w16, w32, w64, w128, cast_signed}
use Rattle.std.proofs.lemmas.Int.{to_z_pos}
use mir.Val.{bits}
use lib.Pow.{pow_pos}
use Rattle.isle_numerics.specs.declared.operation.Predicate.TheVariants.{PowerOfTwo}
use Rattle.isle_numerics.specs.Bits.{highest_power, log2, is_power}
use Rattle.isle_numerics.specs.Meaning.{logarithm, predicate}

-- ---- zeros at the low end

under_min : (d t k : ℕ) → under d (min k t) ≡ min (suc k) (under d t)
under_min zero t k = omega arith
under_min (suc d) t k = omega arith

-- in fewer places there are as many, or all
pub fewer_trailing : (k m n : ℕ) → k ≤ m → count_trailing_zeros k n ≡ min k (count_trailing_zeros m n)
unfolding count_trailing_zeros
fewer_trailing zero m n h = omega arith
fewer_trailing (suc k) zero n h = absurd (omega (arith, h))
fewer_trailing (suc k) (suc m) n h =
    ap (under (n % 2)) (fewer_trailing k m (n / 2) (omega (arith, h))) ∙ under_min (n % 2) (count_trailing_zeros m (n / 2)) k

-- ---- zeros at the high end

half_below : (n k : ℕ) → n < 2 ^ suc k → n / 2 < 2 ^ k
half_below n k h = omega (arith, h, pow-suc 2 k)

-- each place more above is one more
pub more_leading : (k m n : ℕ) → k ≤ m → n < 2 ^ k → count_leading_zeros m n ≡ count_leading_zeros k n + (m - k)
unfolding count_leading_zeros
more_leading zero m zero h f = leading_of_zero m ∙ omega arith
more_leading zero m (suc n) h f = absurd (omega (arith, f))
more_leading (suc k) zero n h f = absurd (omega (arith, h))
more_leading (suc k) (suc m) zero h f = omega (arith, h)
more_leading (suc k) (suc m) (suc n) h f = more_leading k m (suc n / 2) (omega (arith, h)) (half_below (suc n) k f) ∙ omega (arith, h)

-- ---- logarithms

same_place : (place n r : ℕ) → 2 ^ place ≤ n → n < 2 ^ suc r → place ≤ r
same_place place n r low high =
    ⊎_elim
    (λ less. absurd (let more : 2 ^ suc r ≤ 2 ^ place = pow-le-pow_right (omega arith) less in omega (arith, low, high, more)))
    (λ some. some)
    (cases_lt r place)

highest_by : (b : Bool) (place n r : ℕ) → leb (2 ^ suc place) n ≡ b → 2 ^ r ≤ n → n < 2 ^ suc r → r ≤ suc place
    → (r ≤ place → highest_power place n ≡ r) → cond b (suc place) (highest_power place n) ≡ r
highest_by true place n r e low high h rest =
    let up : suc place ≤ r = same_place (suc place) n r (leb-true (2 ^ suc place) n e) high in
    omega (arith, up, h)
highest_by false place n r e low high h rest = rest (same_place r n place low (leb-false (2 ^ suc place) n e))

pub highest_is : (place n r : ℕ) → 2 ^ r ≤ n → n < 2 ^ suc r → r ≤ place → highest_power place n ≡ r
unfolding highest_power
highest_is zero n r low high h = omega (arith, h)
highest_is (suc place) n r low high h = highest_by (leb (2 ^ suc place) n) place n r refl low high h (highest_is place n r low high)

-- the logarithm is the number between whose powers n lies
pub log2_is : (n r : ℕ) → 2 ^ r ≤ n → n < 2 * 2 ^ r → r < 128 → r ≡ log2 n
unfolding log2
log2_is n r low high h = sym (highest_is 127 n r low (omega (arith, high, pow-suc 2 r)) (omega (arith, h)))

-- at a number above 0
pub logarithm_is : (x : ℤ) (r : ℕ) → int_lt (pos 0) x ≡ true → 2 ^ r ≤ unsigned_abs x → unsigned_abs x < 2 * 2 ^ r → r < 128 → Some (pos r) ≡ logarithm x
logarithm_is x r e low high h = rw e (ap (λ k. Some (pos k)) (log2_is (unsigned_abs x) r low high h))

power_by : (n r : ℕ) → 0 < n → 2 ^ r ≤ n → n < 2 * 2 ^ r → r < 128 → eqb n (1 * 2 ^ r % 2 ^ 128) ≡ is_power n
power_by n r some low high h = rw (lt-ltb 0 n some, sym (log2_is n r low high h), one_shl r 128 h) refl

-- a number above 0 is a power of 2 if it is that of its logarithm
pub power_is : (x : ℤ) (r : ℕ) → int_lt (pos 0) x ≡ true → 2 ^ r ≤ unsigned_abs x → unsigned_abs x < 2 * 2 ^ r → r < 128
    → eqb (unsigned_abs x) (1 * 2 ^ r % 2 ^ 128) ≡ predicate PowerOfTwo x
power_is x r e low high h =
    let some : 0 < unsigned_abs x = omega (arith, low, pow_pos r) in
    rw e (power_by (unsigned_abs x) r some low high h)

-- ---- as the code comes by them

bits_most : (w : Width) → bits w ≤ 128
bits_most w8 = omega arith
bits_most w16 = omega arith
bits_most w32 = omega arith
bits_most w64 = omega arith
bits_most w128 = omega arith

pub leading_given : (w : Width) (n b : ℕ) → b ≡ bits w → n < 2 ^ bits w → cast_signed w128 (count_leading_zeros 128 n - (128 - b)) ≡ pos (count_leading_zeros (bits w) n)
leading_given w n b e h =
    let same : count_leading_zeros 128 n - (128 - b) ≡ count_leading_zeros (bits w) n =
    omega (arith, more_leading (bits w) 128 n (bits_most w) h, bits_most w, e) in
    ap (cast_signed w128) same ∙ to_z_pos w128 (count_leading_zeros (bits w) n) (omega (arith, leading_le (bits w) n, bits_most w))

pub trailing_given : (w : Width) (n b : ℕ) → b ≡ bits w → cast_signed w128 (min (count_trailing_zeros 128 n) b) ≡ pos (count_trailing_zeros (bits w) n)
trailing_given w n b e =
    let same : min (count_trailing_zeros 128 n) b ≡ count_trailing_zeros (bits w) n =
    omega (arith, fewer_trailing (bits w) 128 n (bits_most w), e) in
    ap (cast_signed w128) same ∙ to_z_pos w128 (count_trailing_zeros (bits w) n) (omega (arith, trailing_le (bits w) n, bits_most w))

pub leading_room : (w : Width) (n b : ℕ) → b ≡ bits w → n < 2 ^ bits w → 128 - b ≤ count_leading_zeros 128 n
leading_room w n b e h = omega (arith, more_leading (bits w) 128 n (bits_most w) h, bits_most w, e)
