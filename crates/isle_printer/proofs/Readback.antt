-- A number is read again from its digits.
use Rattle.std.proofs.Common.{◌≡◌, ℕ, zero, suc, ◌<◌, ◌≤◌, List, [], ◌∷◌, map, Some, refl, arith}
use Rattle.std.specs.Int.Digits.{digits_of, number_from_digits, AllBelowBase}
use Rattle.std.proofs.lemmas.Int.Digits.{number_digits_of, all_below_base_digits_of}
use Rattle.std.proofs.lemmas.Bool.Decides.{nat_tests}
use Rattle.isle_printer.specs.Number.{numeral, glyph, digit_of, numeral_of}
use Rattle.isle_printer.proofs.Bytes.{same_bytes_refl}
use Rattle.isle_printer.proofs.Numerals.{below_sixteen}

digit_of-glyph : (d : ℕ) → d < 16 → digit_of (glyph d) ≡ d
digit_of-glyph d h = grind (arith, nat_tests)

digits_again : (ds : List ℕ) → AllBelowBase 16 ds → map digit_of (map glyph ds) ≡ ds
digits_again [] all = refl
digits_again (d ∷ ds) all = rw (digit_of-glyph d all.0, digits_again ds all.1) refl

value_again : (b n : ℕ) → 2 ≤ b → b ≤ 16 → number_from_digits b (map digit_of (numeral b n)) ≡ n
unfolding numeral
value_again b zero low high = omega arith
value_again b (suc n) low high =
    rw (digits_again (digits_of b (suc n)) (below_sixteen b _ high (all_below_base_digits_of b (suc n) low))) (number_digits_of b (suc n) low)

-- what a number is spelled as is read as that number
pub numeral_again : (b n : ℕ) → 2 ≤ b → b ≤ 16 → numeral_of b (numeral b n) ≡ Some n
unfolding numeral_of
numeral_again b n low high = rw (value_again b n low high, same_bytes_refl (numeral b n)) refl
