-- Sums and products of counts that are kept up to what a rule may have.
use Rattle.std.proofs.Common.{◌≡◌, ℕ, zero, suc, ◌+◌, ◌-◌, ◌*◌, ◌^◌, ◌<◌, ◌≤◌, min, Bool, true, false, refl, ap, arith}
use Rattle.std.specs.Prelude.{nat_le}
use Rattle.std.proofs.lemmas.Bool.{leb-true, leb-false}
use Rattle.isle_templates.specs.SameCount.{SameCount}

large_product : (a c : ℕ) → 4096 ≤ a → 0 < c → 4096 ≤ c * a
large_product a zero le lt = absurd (omega arith)
large_product a (suc c) le lt = omega arith

larger_product : (a c : ℕ) → 4097 ≤ a → 0 < c → 4097 ≤ c * a
larger_product a zero le lt = absurd (omega arith)
larger_product a (suc c) le lt = omega arith

-- so often the one is so often the other
pub same_times : (c a b : ℕ) → SameCount a b → SameCount (c * a) (c * b)
same_times zero a b same = omega arith
same_times (suc c) a b same = pick (nat_le 4097 a) refl
  where
    pick : (large : Bool) → nat_le 4097 a ≡ large → SameCount (suc c * a) (suc c * b)
    pick true e =
        let le = leb-true 4097 a e in
        let one = larger_product a (suc c) le (omega arith) in
        let other = larger_product b (suc c) (omega (arith, le, same)) (omega arith) in
        omega (arith, one, other)
    pick false e =
        let lt = leb-false 4097 a e in
        ap (λ n. min (suc c * n) 4097) {x = a} {y = b} (omega (arith, lt, same))

pub same_products : (a b c d : ℕ) → SameCount a b → SameCount c d → SameCount (a * c) (b * d)
same_products a b c d one other =
    let first = same_times a c d other in
    let turned : SameCount (d * a) (d * b) = same_times d a b one in
    omega (arith, first, turned)

-- a product that code makes
pub same_product : (a b c d n : ℕ) → SameCount a b → SameCount c d → n ≡ min (a * c) (2 ^ 64 - 1) → SameCount n (b * d)
same_product a b c d n one other is = let both = same_products a b c d one other in omega (arith, both, is)

-- so many nodes more than one, so often, beside some nodes
pub same_extras : (old base times n nodes more sum : ℕ) → SameCount old base → 0 < base → SameCount n nodes → more ≡ min (times * (n - 1)) (2 ^ 64 - 1) → sum ≡ min (old + more) (2 ^ 64 - 1) → SameCount sum (base + times * (nodes - 1))
same_extras old base zero n nodes more sum same some one more_is sum_is = omega (arith, same, more_is, sum_is)
same_extras old base (suc times) n nodes more sum same some one more_is sum_is = pick (nat_le 4097 n) refl
  where
    pick : (large : Bool) → nat_le 4097 n ≡ large → SameCount sum (base + suc times * (nodes - 1))
    pick true e =
        let le = leb-true 4097 n e in
        let first = large_product (n - 1) (suc times) (omega arith) (omega arith) in
        let second = large_product (nodes - 1) (suc times) (omega (arith, le, one)) (omega arith) in
        omega (arith, first, second, same, some, more_is, sum_is)
    pick false e =
        let lt = leb-false 4097 n e in
        let product : suc times * (n - 1) ≡ suc times * (nodes - 1) = ap (λ m. suc times * (m - 1)) {x = n} {y = nodes} (omega (arith, lt, one)) in
        omega (arith, product, same, more_is, sum_is)
