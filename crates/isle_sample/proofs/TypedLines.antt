-- What the lines of a sample are: the terms are declared in order of their numbers, and each has a rule.
use Rattle.std.proofs.Common.{◌≡◌, ℕ, zero, suc, ◌+◌, ◌%◌, ◌<◌, ◌≤◌, Bool, true, false, List, [], ◌∷◌, ◌++◌, map, flat_map, refl, sym, ap, ◌∙◌, subst, arith, append_assoc, ⊎_elim, eq-or-lt_of_le}
use Rattle.std.specs.Prelude.{◌||◌}
use Rattle.std.specs.List.{range_with_len, list_any}
use Rattle.std.specs.Str.{bytes_eq}
use Rattle.isle_sample.specs.Sample.{term_name}
use Rattle.isle_sample.proofs.SampleLines.{Line, Declares, Gives, Otherwise, row_lines, term_lines, lines}
use Rattle.isle_sample.proofs.TypedNames.{own_name}

-- lines declare the terms from the next number up to n, in order; rules are for terms below n and numbers below four
abbrev pub AreTyped : (n next : ℕ) → List Line → Type 0
AreTyped n next [] = next ≡ n
AreTyped n next (Declares i ∷ ls) = (i ≡ next) × (next < n) × AreTyped n (next + 1) ls
AreTyped n next (Gives i a b ∷ ls) = (i < n) × (a < 4) × (b < 4) × AreTyped n next ls
AreTyped n next (Otherwise i ∷ ls) = (i < n) × AreTyped n next ls

-- rules of a row before others
row_typed : (n next i a b count : ℕ) (ls : List Line) → i < n → a < 4 → b + count ≤ 4 → AreTyped n next ls → AreTyped n next (map (λ c. Gives i a c) (range_with_len b count) ++ ls)
row_typed n next i a b zero ls lt small few h = h
row_typed n next i a b (suc count) ls lt small few h = (lt, small, omega (arith, few), row_typed n next i a (b + 1) count ls lt small (omega (arith, few)) h)

-- rows before others
rows_typed : (n next i a count width : ℕ) (ls : List Line) → i < n → width ≤ 4 → a + count ≤ 4 → AreTyped n next ls → AreTyped n next (flat_map (λ c. row_lines i c width) (range_with_len a count) ++ ls)
rows_typed n next i a zero width ls lt narrow few h = h
rows_typed n next i a (suc count) width ls lt narrow few h =
    let first = row_lines i a width in
    let others = flat_map (λ c. row_lines i c width) (range_with_len (a + 1) count) in
    subst (AreTyped n next) (sym (append_assoc first others ls)) (row_typed n next i a 0 width (others ++ ls) lt (omega (arith, few)) (omega (arith, narrow)) (rows_typed n next i (a + 1) count width ls lt narrow (omega (arith, few)) h))

-- a term's lines before others
term_typed : (n i : ℕ) (ls : List Line) → i < n → AreTyped n (i + 1) ls → AreTyped n i (term_lines i ++ ls)
term_typed n i ls lt h =
    let width = i % 4 + 1 in
    let narrow : width ≤ 4 = omega arith in
    let rules = flat_map (λ a. row_lines i a width) (range_with_len 0 width) in
    (refl, lt, subst (AreTyped n (i + 1)) (sym (append_assoc rules (Otherwise i ∷ []) ls)) (rows_typed n (i + 1) i 0 width width (Otherwise i ∷ ls) lt narrow (omega (arith, narrow)) (lt, h)))

-- the lines of terms in a row
terms_typed : (n next count : ℕ) → next + count ≡ n → AreTyped n next (flat_map term_lines (range_with_len next count))
terms_typed n next zero e = omega (arith, e)
terms_typed n next (suc count) e = term_typed n next (flat_map term_lines (range_with_len (next + 1) count)) (omega (arith, e)) (terms_typed n (next + 1) count (omega (arith, e)))

-- the lines of a sample
pub lines_typed : (n : ℕ) → AreTyped n 0 (lines n)
lines_typed n = terms_typed n 0 n (omega arith)

-- ---- each term has a rule

-- a line is a rule of a term of this name
abbrev pub rules_name : List ℕ → Line → Bool
rules_name name (Declares i) = false
rules_name name (Gives i a b) = bytes_eq (term_name i) name
rules_name name (Otherwise i) = bytes_eq (term_name i) name

or_true : (b : Bool) → (b || true) ≡ true
or_true true = refl
or_true false = refl

or_more : (b x y : Bool) → (b || x) ≡ true → (x ≡ true → y ≡ true) → (b || y) ≡ true
or_more true x y h more = refl
or_more false x y h more = more h

-- what passes among lines passes among more lines after others
any_after : (test : Line → Bool) (before ls : List Line) → list_any test ls ≡ true → list_any test (before ++ ls) ≡ true
any_after test [] ls h = h
any_after test (l ∷ before) ls h = ap (λ b. test l || b) (any_after test before ls h) ∙ or_true (test l)

-- and before others
any_before : (test : Line → Bool) (ls after : List Line) → list_any test ls ≡ true → list_any test (ls ++ after) ≡ true
any_before test [] after h = absurd cc
any_before test (l ∷ ls) after h = or_more (test l) (list_any test ls) (list_any test (ls ++ after)) h (any_before test ls after)

-- a term's lines have a rule for it
term_ruled : (i : ℕ) → list_any (rules_name (term_name i)) (term_lines i) ≡ true
term_ruled i = any_after (rules_name (term_name i)) (Declares i ∷ flat_map (λ a. row_lines i a (i % 4 + 1)) (range_with_len 0 (i % 4 + 1))) (Otherwise i ∷ []) (ap (λ b. b || false) (own_name i))

-- so have the lines of terms in a row
terms_ruled : (next count i : ℕ) → next ≤ i → i < next + count → list_any (rules_name (term_name i)) (flat_map term_lines (range_with_len next count)) ≡ true
terms_ruled next zero i low high = absurd (omega (arith, low, high))
terms_ruled next (suc count) i low high =
    let rest = flat_map term_lines (range_with_len (next + 1) count) in
    ⊎_elim
    (λ e. any_before (rules_name (term_name i)) (term_lines next) rest (subst (λ k. list_any (rules_name (term_name i)) (term_lines k) ≡ true) (sym e) (term_ruled i)))
    (λ lt. any_after (rules_name (term_name i)) (term_lines next) rest (terms_ruled (next + 1) count i (omega (arith, lt)) (omega (arith, high))))
    (eq-or-lt_of_le low)

-- each term below has a rule among the lines
pub lines_ruled : (n i : ℕ) → i < n → list_any (rules_name (term_name i)) (lines n) ≡ true
lines_ruled n i lt = terms_ruled 0 n i (omega arith) (omega (arith, lt))
