-- How a number of a builtin integer type is spelled.
use Rattle.std.specs.Prelude.{ℕ, suc, ℤ, pos, negsuc, List, [], ◌∷◌, ◌++◌, ◌==◌, ◌&&◌, codes, find, if◌then◌else◌, Option, Some, None}
use Rattle.std.specs.Int.{cast_signed}
use Rattle.isle_core.specs.Int.{int_types, type_name, is_signed, width, wrapped}
use Rattle.isle_core.specs.declared.types.IntType.{IntType}
use Rattle.isle_core.specs.declared.types.IntType.TheVariants.{U8, U16, U32, U64, U128, USize, I8, I16, I32, I64, I128, ISize}
use Rattle.isle_printer.specs.Token.{Token, Word, Mark}
use Rattle.isle_printer.specs.Number.{numeral, numeral_of}
use Rattle.isle_printer.specs.Bytes.{same_bytes}

-- the digits of a magnitude: hexadecimal if the type is unsigned, else decimal
abbrev pub digits_word : IntType → ℕ → List ℕ
digits_word ty n = if is_signed ty then numeral 10 n else codes "0x" ++ numeral 16 n

-- a magnitude with its type, as 0xff_u8 or 12_i64
abbrev pub literal_word : IntType → ℕ → List ℕ
literal_word ty n = digits_word ty n ++ (codes "_" ++ type_name ty)

-- the bytes of a number of the type
abbrev pub literal_text : IntType → ℤ → List ℕ
literal_text ty (pos n) = literal_word ty n
literal_text ty (negsuc n) = codes "-" ++ literal_word ty (suc n)

-- the tokens of a number of the type
abbrev pub literal_tokens : IntType → ℤ → List Token
literal_tokens ty (pos n) = Word (literal_word ty n) ∷ []
literal_tokens ty (negsuc n) = Mark (codes "-") ∷ Word (literal_word ty (suc n)) ∷ []

-- the number that a type's bits stand for
abbrev pub of_bits : IntType → ℕ → ℤ
of_bits ty n = if is_signed ty then cast_signed (width ty) n else pos n

-- a number of the type as a value has it: u128 as its 128 signed bits, the others as they are
abbrev pub signed_bits : IntType → ℤ → ℤ
signed_bits U128 n = wrapped I128 n
signed_bits U8 n = n
signed_bits U16 n = n
signed_bits U32 n = n
signed_bits U64 n = n
signed_bits USize n = n
signed_bits I8 n = n
signed_bits I16 n = n
signed_bits I32 n = n
signed_bits I64 n = n
signed_bits I128 n = n
signed_bits ISize n = n

-- ---- reading a magnitude with its type

-- what stands before the first _, and what after it
abbrev pub parted : List ℕ → List ℕ × List ℕ
parted [] = ([], [])
parted (b ∷ bs) = if b == 95 then ([], bs) else (b ∷ (parted bs).0, (parted bs).1)

-- the type of this name
abbrev pub type_named : List ℕ → Option IntType
type_named w = find (λ (ty : IntType). same_bytes (type_name ty) w) int_types

-- the number whose hexadecimal digits stand after 0x
abbrev pub after_0x : List ℕ → Option ℕ
after_0x [] = None
after_0x (a ∷ []) = None
after_0x (a ∷ b ∷ ds) = if (a == 48) && (b == 120) then numeral_of 16 ds else None

-- a number beside its type
abbrev pub beside : IntType → Option ℕ → Option (IntType × ℕ)
beside ty None = None
beside ty (Some n) = Some (ty, n)

-- the magnitude that the digits spell at the type
abbrev pub magnitude_at : Option IntType → List ℕ → Option (IntType × ℕ)
magnitude_at None ds = None
magnitude_at (Some ty) ds = beside ty (if is_signed ty then numeral_of 10 ds else after_0x ds)

-- the type and the magnitude that the word spells, or none
unfoldable pub literal_of : List ℕ → Option (IntType × ℕ)
literal_of w = magnitude_at (type_named (parted w).1) (parted w).0
