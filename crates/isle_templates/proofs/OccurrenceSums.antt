-- Sums over numbers are sums by how often each number stands among them.
use Rattle.std.proofs.Common.{◌≡◌, ℕ, zero, suc, ◌+◌, ◌*◌, ◌<◌, ◌≤◌, Bool, true, false, cond, eqb, List, [], ◌∷◌, ◌++◌, refl, sym, ap, ◌∙◌, arith}
use Rattle.std.specs.Prelude.{Contains, nat_le}
use Rattle.std.proofs.lemmas.Bool.{eqb-true, eqb-false, ne_eqb, leb-true, leb-false}
use Rattle.isle_core.proofs.Contained.{head_contained, tail_contained}
use Rattle.isle_templates.specs.Occurrences.{times_in}
use Rattle.isle_templates.specs.SameCount.{SameCount}
use Rattle.isle_templates.proofs.SameCounts.{same_products}

-- the sum over these
abbrev pub sum_over : (ℕ → ℕ) → List ℕ → ℕ
sum_over each [] = 0
sum_over each (y ∷ ys) = each y + sum_over each ys

-- the sum over the numbers below one, each so often
abbrev pub by_times : (each times : ℕ → ℕ) → ℕ → ℕ
by_times each times zero = 0
by_times each times (suc n) = by_times each times n + times n * each n

pub sum_over-append : (each : ℕ → ℕ) (xs ys : List ℕ) → sum_over each (xs ++ ys) ≡ sum_over each xs + sum_over each ys
sum_over-append each [] ys = omega arith
sum_over-append each (x ∷ xs) ys = let rest = sum_over-append each xs ys in omega arith

none_by_times : (each : ℕ → ℕ) (n : ℕ) → by_times each (times_in []) n ≡ 0
none_by_times each zero = refl
none_by_times each (suc n) = let rest = none_by_times each n in omega arith

-- a number that isn't below
not_below : (each : ℕ → ℕ) (y : ℕ) (ys : List ℕ) (n : ℕ) → n ≤ y → by_times each (times_in (y ∷ ys)) n ≡ by_times each (times_in ys) n
not_below each y ys zero le = refl
not_below each y ys (suc n) le =
    let other = ne_eqb y n (λ e. omega arith) in
    let rest = not_below each y ys n (omega arith) in
    ap (λ b. by_times each (times_in (y ∷ ys)) n + cond b (suc (times_in ys n)) (times_in ys n) * each n) other ∙ omega (arith, rest)

-- one that is
one_below : (each : ℕ → ℕ) (y : ℕ) (ys : List ℕ) (n : ℕ) → y < n → by_times each (times_in (y ∷ ys)) n ≡ each y + by_times each (times_in ys) n
one_below each y ys zero lt = absurd (omega arith)
one_below each y ys (suc n) lt = pick (eqb y n) refl (λ less. one_below each y ys n less)
  where
    pick : (b : Bool) → eqb y n ≡ b → (y < n → by_times each (times_in (y ∷ ys)) n ≡ each y + by_times each (times_in ys) n)
        → by_times each (times_in (y ∷ ys)) n + cond b (suc (times_in ys n)) (times_in ys n) * each n ≡ each y + (by_times each (times_in ys) n + times_in ys n * each n)
    pick true e rest =
        let same : y ≡ n = eqb-true y n e in
        let before = not_below each y ys n (omega (arith, same)) in
        let here : each y ≡ each n = ap each same in
        omega (arith, before, here)
    pick false e rest = ne (eqb-false y n e)
      where
        ne : (y ≡ n → ⊥) → by_times each (times_in (y ∷ ys)) n + times_in ys n * each n ≡ each y + (by_times each (times_in ys) n + times_in ys n * each n)
        ne apart = less (nat_le (suc y) n) refl
          where
            less : (b : Bool) → nat_le (suc y) n ≡ b → by_times each (times_in (y ∷ ys)) n + times_in ys n * each n ≡ each y + (by_times each (times_in ys) n + times_in ys n * each n)
            less true f = let before = rest (leb-true (suc y) n f) in omega (arith, before)
            less false f = let le = leb-false (suc y) n f in absurd (apart (omega (arith, le, lt)))

pub sum_by_times : (each : ℕ → ℕ) (ys : List ℕ) (n : ℕ) → ((y : ℕ) → n ≤ y → Contains ys y → each y ≡ 0) → sum_over each ys ≡ by_times each (times_in ys) n
sum_by_times each [] n none = sym (none_by_times each n)
sum_by_times each (y ∷ ys) n none = pick (nat_le (suc y) n) refl (sum_by_times each ys n (λ z le c. none z le (tail_contained y ys z c)))
  where
    pick : (b : Bool) → nat_le (suc y) n ≡ b → sum_over each ys ≡ by_times each (times_in ys) n → each y + sum_over each ys ≡ by_times each (times_in (y ∷ ys)) n
    pick true e rest = let here = one_below each y ys n (leb-true (suc y) n e) in omega (arith, here, rest)
    pick false e rest =
        let lt = leb-false (suc y) n e in
        let here = not_below each y ys n (omega (arith, lt)) in
        let nothing = none y (omega (arith, lt)) (head_contained y ys) in
        omega (arith, here, rest, nothing)

-- counts that are kept up to what a rule may have will do
pub same_by_times : (each first second : ℕ → ℕ) (n : ℕ) → ((x : ℕ) → SameCount (first x) (second x)) → SameCount (by_times each first n) (by_times each second n)
same_by_times each first second zero same = refl
same_by_times each first second (suc n) same =
    let rest = same_by_times each first second n same in
    let here : SameCount (first n * each n) (second n * each n) = same_products (first n) (second n) (each n) (each n) (same n) refl in
    omega (arith, rest, here)

-- each so often more
pub often_by_times : (c : ℕ) (each times : ℕ → ℕ) (n : ℕ) → by_times each (λ x. c * times x) n ≡ c * by_times each times n
often_by_times c each times zero = omega arith
often_by_times c each times (suc n) = let rest = often_by_times c each times n in omega arith
