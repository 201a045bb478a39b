-- How a number of a primitive type is spelled: by its 128 bits, with no type after it.
use Rattle.std.specs.Prelude.{ℕ, ℤ, List, ◌++◌, ◌==◌, codes, if◌then◌else◌, Option, Some, None}
use Rattle.std.specs.Int.{w128, cast_signed, cast_unsigned}
use Rattle.isle_printer.specs.Number.{numeral}
use Rattle.isle_spelling.specs.Literal.{after_0x}

-- the hexadecimal digits of the bits, as 0xff
abbrev pub raw_word : ℤ → List ℕ
raw_word z = codes "0x" ++ numeral 16 (cast_unsigned w128 z)

-- the number that the bits stand for, if there are no more than 128
abbrev pub raw_at : Option ℕ → Option ℤ
raw_at None = None
raw_at (Some n) = let z = cast_signed w128 n in if cast_unsigned w128 z == n then Some z else None

-- the number that the word spells, or none
unfoldable pub raw_of : List ℕ → Option ℤ
raw_of w = raw_at (after_0x w)
