-- A number is the sum of its bits' worths, so what is done bit by bit is a sum over places.
use Rattle.std.proofs.Common.{◌≡◌, ℕ, zero, suc, ◌+◌, ◌-◌, ◌*◌, ◌%◌, ◌^◌, ◌<◌, refl, sym, ap, ◌∙◌, arith}
use Rattle.std.specs.Prelude.{ℤ, pos, min}
use Rattle.std.specs.Int.{Width, bit_at, bit_not}
use Rattle.std.specs.Int.RustNames.{bit_or, bit_xor}
use Rattle.std.proofs.Math.Nat.{mod-eq_of_lt, mod-one}
use Rattle.std.proofs.lemmas.Nat.{mod-pow-add}
use Rattle.std.proofs.lemmas.Nat.Bits.{bit_at_and, bit_at_or, bit_at_xor, bit_at_not, bit_at-lt}
use lib.Bits.{bit_and, and_lt, or_lt, xor_lt}
use lib.Pow.{ones_lt}
use mir.Val.{bits}
use Rattle.isle_core.specs.declared.types.IntType.{IntType}
use Rattle.isle_core.specs.Int.{width}
use Rattle.isle_spelling.proofs.Wraps.{residue_below}
use Rattle.isle_numerics.specs.Bits.{of_places, both, either, differs, opposite}
use Rattle.isle_numerics.specs.Meaning.{pattern, opposite_pattern, reduced, with_bits}

-- the lowest k bits of a number
low_sum : (k n : ℕ) → of_places k (bit_at n) ≡ n % 2 ^ k
unfolding of_places
low_sum zero n = sym (mod-one n)
low_sum (suc k) n =
    let next : 1 + k ≡ suc k = omega arith in
    omega (arith, low_sum k n, mod-pow-add n 1 k, ap (λ (x : ℕ). n % 2 ^ x) next)

-- bits that are the same in each place make the same number
same_sum : (f g : ℕ → ℕ) (k : ℕ) → ((i : ℕ) → i < k → f i ≡ g i) → of_places k f ≡ of_places k g
unfolding of_places
same_sum f g zero e = refl
same_sum f g (suc k) e =
    ap (λ x. x + f k * 2 ^ k) (same_sum f g k (λ i h. e i (omega (arith, h)))) ∙ ap (λ x. of_places k g + x * 2 ^ k) (e k (omega arith))

sum_is : (k n : ℕ) (f : ℕ → ℕ) → n < 2 ^ k → ((i : ℕ) → i < k → bit_at n i ≡ f i) → n ≡ of_places k f
sum_is k n f h e = sym (mod-eq_of_lt h) ∙ sym (low_sum k n) ∙ same_sum (bit_at n) f k e

lesser : (a b : ℕ) → a < 2 → b < 2 → min a b ≡ a * b
lesser zero b h g = omega arith
lesser (suc zero) b h g = omega (arith, g)
lesser (suc (suc a)) b h g = absurd (omega (arith, h))

pub and_places : (k p q : ℕ) → p < 2 ^ k → q < 2 ^ k → bit_and p q ≡ of_places k (both p q)
and_places k p q f g =
    sum_is k (bit_and p q) (both p q) (and_lt k p q f g) (λ i h. bit_at_and p q i ∙ lesser (bit_at p i) (bit_at q i) (bit_at-lt p i) (bit_at-lt q i))

pub or_places : (k p q : ℕ) → p < 2 ^ k → q < 2 ^ k → bit_or p q ≡ of_places k (either p q)
or_places k p q f g = sum_is k (bit_or p q) (either p q) (or_lt k p q f g) (λ i h. bit_at_or p q i)

pub xor_places : (k p q : ℕ) → p < 2 ^ k → q < 2 ^ k → bit_xor p q ≡ of_places k (differs p q)
xor_places k p q f g = sum_is k (bit_xor p q) (differs p q) (xor_lt k p q f g) (λ i h. bit_at_xor p q i)

pub not_places : (w : Width) (p : ℕ) → p < 2 ^ bits w → 2 ^ bits w - 1 - p ≡ of_places (bits w) (opposite p)
not_places w p f =
    sum_is (bits w) (bit_not w p) (opposite p) (omega (arith, f, ones_lt (bits w))) (λ i h. bit_at_not w p i f h)

-- ---- at a type

pub and_reduced : (ty : IntType) (x y : ℤ) → reduced ty (pos (bit_and (pattern ty x) (pattern ty y))) ≡ with_bits ty (both (pattern ty x) (pattern ty y))
and_reduced ty x y =
    ap (λ n. reduced ty (pos n)) (and_places (bits (width ty)) (pattern ty x) (pattern ty y) (residue_below (width ty) x) (residue_below (width ty) y))

pub or_reduced : (ty : IntType) (x y : ℤ) → reduced ty (pos (bit_or (pattern ty x) (pattern ty y))) ≡ with_bits ty (either (pattern ty x) (pattern ty y))
or_reduced ty x y =
    ap (λ n. reduced ty (pos n)) (or_places (bits (width ty)) (pattern ty x) (pattern ty y) (residue_below (width ty) x) (residue_below (width ty) y))

pub xor_reduced : (ty : IntType) (x y : ℤ) → reduced ty (pos (bit_xor (pattern ty x) (pattern ty y))) ≡ with_bits ty (differs (pattern ty x) (pattern ty y))
xor_reduced ty x y =
    ap (λ n. reduced ty (pos n)) (xor_places (bits (width ty)) (pattern ty x) (pattern ty y) (residue_below (width ty) x) (residue_below (width ty) y))

pub not_reduced : (ty : IntType) (x : ℤ) → reduced ty (pos (opposite_pattern ty x)) ≡ with_bits ty (opposite (pattern ty x))
not_reduced ty x = ap (λ n. reduced ty (pos n)) (not_places (width ty) (pattern ty x) (residue_below (width ty) x))
