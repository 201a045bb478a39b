-- The number of a column, by where its line begins.
use Rattle.std.proofs.Common.{◌≡◌, ℕ, zero, suc, ◌+◌, ◌-◌, ◌≤◌, List, [], ◌∷◌, length, take, get_or, Bool, true, false, cond, eqb, leb, sym, ap, arith}
use Rattle.std.specs.Prelude.{count_by}
use Rattle.std.specs.List.Sorted.{IsPartitionPoint}
use Rattle.std.proofs.lemmas.List.Sums.{sum_by-cons}
use Rattle.isle_core.specs.LineStarts.{starts_from, starts_of, start_at}
use Rattle.isle_core.specs.ErrorLines.{since_feed, column_of}
use Rattle.isle_core.proofs.Lines.{feeds_before}

abbrev feeds : List ℕ → ℕ
feeds bs = count_by (λ b. eqb b 10) bs

feeds_cons : (b : ℕ) (bs : List ℕ) → feeds (b ∷ bs) ≡ cond (eqb b 10) 1 0 + feeds bs
feeds_cons b bs = sum_by-cons (λ y. cond (eqb y 10) 1 0) b bs

-- what is after the last of so many line feeds, where m bytes stand before and the first byte at n
abbrev IsSince : (m n o : ℕ) (since : ℕ) (starts : List ℕ) (count : ℕ) → Type 0
IsSince m n o since starts zero = since ≡ m + o
IsSince m n o since starts (suc c) = since + get_or starts c 0 ≡ n + o

one_more : (t : Bool) (m n o since_feed_next since_feed_more : ℕ) (starts : List ℕ) (count c : ℕ) → count ≡ cond t 1 0 + c → IsSince 0 (n + 1) o since_feed_next starts c → IsSince (m + 1) (n + 1) o since_feed_more starts c
    → IsSince m n (suc o) (cond t since_feed_next since_feed_more) (cond t ((n + 1) ∷ starts) starts) count
one_more true m n o next more starts zero c e h k = absurd (omega arith)
one_more true m n o next more starts (suc zero) zero e h k = omega (arith, h)
one_more true m n o next more starts (suc zero) (suc c) e h k = absurd (omega (arith, e))
one_more true m n o next more starts (suc (suc count)) zero e h k = absurd (omega (arith, e))
one_more true m n o next more starts (suc (suc count)) (suc c) e h k = let same : count ≡ c = omega (arith, e) in rw same (omega (arith, h))
one_more false m n o next more starts zero zero e h k = omega (arith, k)
one_more false m n o next more starts zero (suc c) e h k = absurd (omega (arith, e))
one_more false m n o next more starts (suc count) zero e h k = absurd (omega (arith, e))
one_more false m n o next more starts (suc count) (suc c) e h k = let same : count ≡ c = omega (arith, e) in rw same (omega (arith, k))

since_is : (m n o : ℕ) (bs : List ℕ) → o ≤ length bs → IsSince m n o (since_feed m (take o bs)) (starts_from n bs) (feeds (take o bs))
since_is m n zero bs le = omega arith
since_is m n (suc o) [] le = absurd (omega (arith, le))
since_is m n (suc o) (b ∷ bs) le =
    one_more (eqb b 10) m n o (since_feed 0 (take o bs)) (since_feed (m + 1) (take o bs)) (starts_from (n + 1) bs) (feeds (b ∷ take o bs)) (feeds (take o bs)) (feeds_cons b (take o bs))
    (since_is 0 (n + 1) o bs (omega (arith, le))) (since_is (m + 1) (n + 1) o bs (omega (arith, le)))

-- so by where the line begins
by_start : (o since : ℕ) (starts : List ℕ) (count : ℕ) → IsSince 0 0 o since starts count → (start_at starts count ≤ o) × (since ≡ o - start_at starts count)
by_start o since starts zero h = (omega arith, omega (arith, h))
by_start o since starts (suc c) h = (omega (arith, h), omega (arith, h))

pub column_is : (text : List ℕ) (offset k : ℕ) → offset ≤ length text → k ≤ length (starts_of text) → IsPartitionPoint (λ s. leb s offset ≡ true) (λ s. leb s offset ≡ false) (starts_of text) k
    → (start_at (starts_of text) k ≤ offset) × (1 + (offset - start_at (starts_of text) k) ≡ column_of text offset)
column_is text offset k within le h =
    let is : feeds (take offset text) ≡ k = feeds_before text offset k le h in
    let at = by_start offset (since_feed 0 (take offset text)) (starts_of text) k (rw (← is) (since_is 0 0 offset text within)) in
    (at.0, ap (λ n. 1 + n) (sym at.1))
