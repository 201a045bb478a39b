-- The hash of a name.
use Rattle.std.specs.Prelude.{ℕ, ◌+◌, ◌*◌, ◌-◌, ◌^◌, ◌%◌, ◌/◌, nat_lt, bit_xor, List, [], ◌∷◌, length, get_or, if◌then◌else◌}
use Rattle.std.specs.List.{fold}
use Rattle.std.specs.Int.{w64, from_le_bytes}

-- a number with its bits spread upwards
abbrev pub spread : ℕ → ℕ
spread n = n * 11400714819323198485 % 2 ^ 64

-- a hash with one byte or word more
abbrev pub mixed : ℕ → ℕ → ℕ
mixed hash more = spread ((hash + more) % 2 ^ 64)

-- the same with all its bits in the lower ones
abbrev pub stirred : ℕ → ℕ → ℕ
stirred hash more = bit_xor (mixed hash more) (mixed hash more / 2 ^ 32)

-- a hash with these bytes more
abbrev pub mixed_all : ℕ → List ℕ → ℕ
mixed_all hash bytes = fold mixed hash bytes

-- eight bytes from here on
unfoldable pub word : List ℕ → ℕ → ℕ
word bytes at = from_le_bytes w64 (
    get_or bytes at 0 ∷ get_or bytes (at + 1) 0 ∷ get_or bytes (at + 2) 0 ∷ get_or bytes (at + 3) 0
    ∷ get_or bytes (at + 4) 0 ∷ get_or bytes (at + 5) 0 ∷ get_or bytes (at + 6) 0
    ∷ get_or bytes (at + 7) 0 ∷ [])

-- a hash with the first and the last word more
abbrev pub with_ends : ℕ → List ℕ → ℕ
with_ends hash bytes = stirred (stirred hash (word bytes 0)) (word bytes (length bytes - 8))

-- a hash with the words inside those more
abbrev pub with_inner : ℕ → List ℕ → ℕ
with_inner hash bytes = stirred (stirred hash (word bytes 8)) (word bytes (length bytes - 16))

-- of a long name its length and four of its words count, two at either end
unfoldable pub hash_of : List ℕ → ℕ
hash_of name =
    if nat_lt (length name) 8 then mixed_all (length name) name
    else (if nat_lt (length name) 16 then spread (with_ends (length name) name)
    else spread (with_inner (with_ends (length name) name) name))
