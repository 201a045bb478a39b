-- What an integer word spells.
use Rattle.std.specs.Prelude.{ℕ, ◌+◌, ◌*◌, ◌^◌, ℤ, pos, neg_ℤ, List, length, drop, fold, filter, slice_index, Bool, not, ◌&&◌, ◌==◌, nat_lt, nat_le, if◌then◌else◌, Option, Some, None, option_map}
use Rattle.std.specs.Char.{digit_value}
use Rattle.std.specs.List.{list_all}
use Rattle.isle_core.specs.Int.{wrapped}
use Rattle.isle_core.specs.declared.types.IntType.TheVariants.{I128}

-- 0 to 9
abbrev pub is_decimal : ℕ → Bool
is_decimal b = nat_le 48 b && nat_le b 57

-- the bytes without each _
abbrev pub plain_digits : List ℕ → List ℕ
plain_digits = filter (λ b. not (b == 95))

-- the number that digits spell
abbrev pub spelt_number : ℕ → List ℕ → ℕ
spelt_number base = fold (λ n b. n * base + digit_value b) 0

-- the number that digits of the base spell, one or more, with _ anywhere among them
abbrev pub number : ℕ → List ℕ → Option ℕ
number base bytes =
    let digits = plain_digits bytes in
    if not (length digits == 0) && list_all (λ b. nat_lt (digit_value b) base) digits then Some (spelt_number base digits) else None

-- the base that a byte names after a 0 in front: x, o, b
abbrev pub named_base : ℕ → ℕ
named_base b = if b == 120 then 16 else (if b == 111 then 8 else (if b == 98 then 2 else 10))

-- the base that 0x, 0o or 0b in front names, else ten
abbrev pub base_of : List ℕ → ℕ
base_of word = if slice_index word 0 == 48 then named_base (slice_index word 1) else 10

-- what stands after 0x, 0o or 0b
abbrev pub behind_base : List ℕ → List ℕ
behind_base word = if base_of word == 10 then word else drop 2 word

-- below 2 ^ 128
abbrev pub bounded : Option ℕ → Option ℕ
bounded None = None
bounded (Some n) = if nat_lt n (2 ^ 128) then Some n else None

-- the magnitude that a word without a sign spells: it begins with a digit
unfoldable pub magnitude : List ℕ → Option ℕ
magnitude word = if is_decimal (slice_index word 0) then bounded (number (base_of word) (behind_base word)) else None

-- the value that a word spells, with a - in front or without
unfoldable pub signed_of : List ℕ → Option ℤ
signed_of word = if slice_index word 0 == 45 then option_map (λ n. neg_ℤ (pos n)) (magnitude (drop 1 word)) else option_map (λ n. pos n) (magnitude word)

-- the same, wrapped to 128 signed bits
unfoldable pub int_of : List ℕ → Option ℤ
int_of word = option_map (wrapped I128) (signed_of word)

-- n and one digit more of the base, below 2 ^ 128
abbrev pub grown : ℕ → ℕ → ℕ → Option ℕ
grown base n b = if nat_lt (digit_value b) base then bounded (Some (n * base + digit_value b)) else None
