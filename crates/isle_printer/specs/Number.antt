-- How a number is spelled.
use Rattle.std.specs.Prelude.{ℕ, zero, suc, ◌+◌, ◌-◌, List, [], ◌∷◌, map, nat_lt, if◌then◌else◌, Option, Some, None}
use Rattle.std.specs.Int.Digits.{digits_of, number_from_digits}
use Rattle.isle_printer.specs.Bytes.{same_bytes}

-- the digit d, 0 to 9 and then a to f
abbrev pub glyph : ℕ → ℕ
glyph d = if nat_lt d 10 then 48 + d else 87 + d

-- in a base up to 16, with no zero before it
unfoldable pub numeral : ℕ → ℕ → List ℕ
numeral base zero = 48 ∷ []
numeral base (suc n) = map glyph (digits_of base (suc n))

-- the digit that a byte stands for
abbrev pub digit_of : ℕ → ℕ
digit_of b = if nat_lt b 58 then b - 48 else b - 87

-- the number that is spelled so, if one is
unfoldable pub numeral_of : ℕ → List ℕ → Option ℕ
numeral_of base ds = let n = number_from_digits base (map digit_of ds) in if same_bytes (numeral base n) ds then Some n else None
