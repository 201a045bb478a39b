-- The lines of a sample rise by their keys.
use Rattle.std.proofs.Common.{ℕ, zero, suc, ◌+◌, ◌*◌, ◌<◌, ◌≤◌, ◌%◌, List, [], ◌∷◌, ◌++◌, length, map, arith}
use Rattle.std.specs.List.{flat_map, range_with_len}
use Rattle.isle_sample.proofs.SampleLines.{Line, Declares, Gives, Otherwise, line_text, row_lines, term_lines, lines}

-- the key of a line: each term has eighteen, its declaration the first and its rule for all others the last
abbrev pub key : Line → ℕ
key (Declares i) = 18 * i
key (Gives i a b) = 18 * i + 1 + (4 * a + b)
key (Otherwise i) = 18 * i + 17

-- the place after a line
abbrev pub past : ℕ → Line → ℕ
past at l = at + length (line_text l)

-- keys rise strictly, from the one number on, and end below the other
abbrev pub Rise : (low high : ℕ) → List Line → Type 0
Rise low high [] = low ≤ high
Rise low high (l ∷ ls) = (low ≤ key l) × Rise (suc (key l)) high ls

-- what rises from a number rises from a lower one
pub rise_lower : (low least high : ℕ) (ls : List Line) → least ≤ low → Rise low high ls → Rise least high ls
rise_lower low least high [] le h = omega (arith, le, h)
rise_lower low least high (l ∷ ls) le h = (omega (arith, le, h.0), h.1)

-- what ends where the next begins rises with it
pub rise_joined : (low middle high : ℕ) (ls ms : List Line) → Rise low middle ls → Rise middle high ms
    → Rise low high (ls ++ ms)
rise_joined low middle high [] ms h k = rise_lower middle low high ms h k
rise_joined low middle high (l ∷ ls) ms h k = (h.0, rise_joined (suc (key l)) middle high ls ms h.1 k)

-- the rules of a term for one number and each of some in a row
row_rises : (i a b count low high : ℕ) → low ≤ 18 * i + 1 + (4 * a + b) → 18 * i + 1 + (4 * a + (b + count)) ≤ high
    → Rise low high (map (λ c. Gives i a c) (range_with_len b count))
row_rises i a b zero low high from to = omega (arith, from, to)
row_rises i a b (suc count) low high from to =
    (from, row_rises i a (b + 1) count (suc (18 * i + 1 + (4 * a + b))) high (omega arith) (omega (arith, to)))

-- those for each of some numbers in a row
rows_rise : (i width a count low high : ℕ) → width ≤ 4 → low ≤ 18 * i + 1 + 4 * a → 18 * i + 1 + 4 * (a + count) ≤ high
    → Rise low high (flat_map (λ c. row_lines i c width) (range_with_len a count))
rows_rise i width a zero low high thin from to = omega (arith, from, to)
rows_rise i width a (suc count) low high thin from to =
    let later = flat_map (λ c. row_lines i c width) (range_with_len (a + 1) count) in
    rise_joined low (18 * i + 1 + 4 * (a + 1)) high (row_lines i a width) later
    (row_rises i a 0 width low (18 * i + 1 + 4 * (a + 1)) (omega (arith, from)) (omega (arith, thin)))
    (rows_rise i width (a + 1) count (18 * i + 1 + 4 * (a + 1)) high thin (omega arith) (omega (arith, to)))

-- a term's lines
term_rises : (i : ℕ) → Rise (18 * i) (suc (18 * i + 17)) (term_lines i)
term_rises i =
    let small : i % 4 < 4 = omega arith in
    let count = i % 4 + 1 in
    let rows = flat_map (λ a. row_lines i a count) (range_with_len 0 count) in
    let first = suc (18 * i) in
    let last = 18 * i + 17 in
    let rising : Rise first last rows =
    rows_rise i count 0 count first last (omega (arith, small)) (omega arith) (omega (arith, small)) in
    (omega arith, rise_joined first last (suc last) rows (Otherwise i ∷ []) rising (omega arith, omega arith))

-- those of some terms in a row
terms_rise : (i count low high : ℕ) → low ≤ 18 * i → 18 * (i + count) ≤ high
    → Rise low high (flat_map term_lines (range_with_len i count))
terms_rise i zero low high from to = omega (arith, from, to)
terms_rise i (suc count) low high from to =
    rise_joined low (suc (18 * i + 17)) high (term_lines i) (flat_map term_lines (range_with_len (i + 1) count))
    (rise_lower (18 * i) low (suc (18 * i + 17)) (term_lines i) from (term_rises i))
    (terms_rise (i + 1) count (suc (18 * i + 17)) high (omega arith) (omega (arith, to)))

-- the lines of a sample rise, and end below its count of terms
pub lines_rise : (n : ℕ) → Rise 0 (18 * n) (lines n)
lines_rise n = terms_rise 0 n 0 (18 * n) (omega arith) (omega arith)
