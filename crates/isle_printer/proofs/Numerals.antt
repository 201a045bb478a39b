-- The digits of a number, and that they are a word.
use Rattle.std.proofs.Common.{◌≡◌, ℕ, zero, suc, ◌/◌, ◌%◌, ◌<◌, ◌≤◌, List, [], ◌∷◌, ◌++◌, map, length, Bool, true, refl, sym, ap, ◌∙◌, arith, length-append}
use Rattle.std.specs.List.{list_all}
use Rattle.std.specs.Int.Digits.{digits_of, AllBelowBase}
use Rattle.std.proofs.lemmas.Int.Digits.{digits_of_step, all_below_base_digits_of}
use Rattle.std.proofs.lemmas.List.{map-append}
use Rattle.std.proofs.lemmas.Nat.{le-div}
use Rattle.std.proofs.Math.Nat.{div-eq_of_lt}
use Rattle.std.proofs.lemmas.Bool.{and_parts, and_from}
use Rattle.std.proofs.lemmas.Bool.Decides.{nat_tests}
use Rattle.isle_printer.specs.Token.{is_word_byte, is_word}
use Rattle.isle_printer.specs.Number.{numeral, glyph}

numeral-digits : (b n : ℕ) → 0 < n → numeral b n ≡ map glyph (digits_of b n)
unfolding numeral
numeral-digits b zero h = absurd (omega arith)
numeral-digits b (suc n) h = refl

quotient_above : (b n : ℕ) → 2 ≤ b → b ≤ n → 0 < n / b
quotient_above b n low h = le-div 1 n b (omega arith) (omega arith)

-- the last digit of a number that has others
pub numeral-longer : (b n : ℕ) → 2 ≤ b → b ≤ n → numeral b n ≡ numeral b (n / b) ++ glyph (n % b) ∷ []
numeral-longer b n low h =
    let above : 0 < n = omega arith in
    numeral-digits b n above
    ∙ ap (map glyph) (digits_of_step b n low above)
    ∙ map-append glyph (digits_of b (n / b)) (n % b ∷ [])
    ∙ ap (λ ds. ds ++ glyph (n % b) ∷ []) (sym (numeral-digits b (n / b) (quotient_above b n low h)))

-- the only digit
pub numeral-single : (b n : ℕ) → 2 ≤ b → n < b → numeral b n ≡ glyph (n % b) ∷ []
unfolding numeral
numeral-single b zero low h = let none : 0 % b ≡ 0 = omega arith in rw none refl
numeral-single b (suc n) low h =
    let above : 0 < suc n = omega arith in
    ap (map glyph) (digits_of_step b (suc n) low above ∙ ap (λ q. digits_of b q ++ suc n % b ∷ []) (div-eq_of_lt h))

pub glyph_below : (d : ℕ) → d < 16 → glyph d < 128
glyph_below d h = grind (arith, nat_tests)

-- ---- digits are bytes of a word

glyph_in_word : (d : ℕ) → d < 16 → is_word_byte (glyph d) ≡ true
glyph_in_word d h = grind (arith, nat_tests)

pub below_sixteen : (b : ℕ) (ds : List ℕ) → b ≤ 16 → AllBelowBase b ds → AllBelowBase 16 ds
below_sixteen b [] high all = tt
below_sixteen b (d ∷ ds) high all = (omega (arith, all.0), below_sixteen b ds high all.1)

list_all-glyphs : (p : ℕ → Bool) (ds : List ℕ) → ((d : ℕ) → d < 16 → p (glyph d) ≡ true) → AllBelowBase 16 ds → list_all p (map glyph ds) ≡ true
list_all-glyphs p [] passes all = refl
list_all-glyphs p (d ∷ ds) passes all = and_from _ _ (passes d all.0) (list_all-glyphs p ds passes all.1)

-- what each digit passes, each byte of a number does
pub list_all-numeral_by : (p : ℕ → Bool) (b n : ℕ) → 2 ≤ b → b ≤ 16 → ((d : ℕ) → d < 16 → p (glyph d) ≡ true) → list_all p (numeral b n) ≡ true
unfolding numeral
list_all-numeral_by p b zero low high passes = and_from _ _ (passes 0 (omega arith)) refl
list_all-numeral_by p b (suc n) low high passes = list_all-glyphs p (digits_of b (suc n)) passes (below_sixteen b _ high (all_below_base_digits_of b (suc n) low))

-- each byte of a number is one of a word
pub list_all-numeral : (b n : ℕ) → 2 ≤ b → b ≤ 16 → list_all is_word_byte (numeral b n) ≡ true
list_all-numeral b n low high = list_all-numeral_by is_word_byte b n low high glyph_in_word

-- there is a digit
pub numeral_not_empty : (b n : ℕ) → 2 ≤ b → 0 < length (numeral b n)
unfolding numeral
numeral_not_empty b zero low = omega arith
numeral_not_empty b (suc n) low =
    let above : 0 < suc n = omega arith in
    rw (digits_of_step b (suc n) low above, map-append glyph) (omega (arith, length-append {A = ℕ}))

pub list_all-join : (xs ys : List ℕ) → list_all is_word_byte xs ≡ true → list_all is_word_byte ys ≡ true → list_all is_word_byte (xs ++ ys) ≡ true
list_all-join [] ys h k = k
list_all-join (x ∷ xs) ys h k = let p = and_parts (is_word_byte x) _ h in and_from _ _ p.0 (list_all-join xs ys p.1 k)

pub word_from : (w : List ℕ) → 0 < length w → list_all is_word_byte w ≡ true → is_word w ≡ true
word_from [] some all = absurd (omega arith)
word_from (b ∷ w) some all = all

-- letters and a number after them are one word
pub numbered_is_word : (prefix : List ℕ) (b n : ℕ) → 2 ≤ b → b ≤ 16 → list_all is_word_byte prefix ≡ true → is_word (prefix ++ numeral b n) ≡ true
numbered_is_word prefix b n low high h =
    word_from (prefix ++ numeral b n) (omega (arith, length-append prefix (numeral b n), numeral_not_empty b n low)) (list_all-join prefix _ h (list_all-numeral b n low high))

-- a number between letters is a word with them
pub between_is_word : (prefix : List ℕ) (b n : ℕ) (suffix : List ℕ) → 2 ≤ b → b ≤ 16 → list_all is_word_byte prefix ≡ true → list_all is_word_byte suffix ≡ true → is_word (prefix ++ (numeral b n ++ suffix)) ≡ true
between_is_word prefix b n suffix low high h k =
    word_from (prefix ++ (numeral b n ++ suffix))
    (omega (arith, length-append prefix (numeral b n ++ suffix), length-append (numeral b n) suffix, numeral_not_empty b n low))
    (list_all-join prefix _ h (list_all-join (numeral b n) suffix (list_all-numeral b n low high) k))
