-- The ten fixed-width integer types: their order, and which integer type each is.
use Rattle.std.specs.Prelude.{ℕ, List, [], ◌∷◌, Bool, true, false, ◌==◌, if◌then◌else◌}
use Rattle.std.specs.List.{Contains}
use Rattle.isle_core.specs.declared.types.IntType.{IntType}
use Rattle.isle_core.specs.declared.types.IntType.TheVariants.{U8, U16, U32, U64, U128, I8, I16, I32, I64, I128}
use Rattle.isle_numerics.specs.declared.numeric_type.NumericType.{NumericType}

-- the type of this sign and of this many bytes
abbrev pub numeric : Bool → ℕ → NumericType
numeric signed bytes = record { signed = signed; byte_width = bytes }

-- the ten types, in order: i8 u8 i16 u16 i32 u32 i64 u64 i128 u128
abbrev pub numeric_types : List NumericType
numeric_types =
    numeric true 1 ∷ numeric false 1
    ∷ numeric true 2 ∷ numeric false 2
    ∷ numeric true 4 ∷ numeric false 4
    ∷ numeric true 8 ∷ numeric false 8
    ∷ numeric true 16 ∷ numeric false 16 ∷ []

-- one of the ten
abbrev pub IsNumeric : NumericType → Type 0
IsNumeric ty = Contains numeric_types ty

-- the signed type of 1, 2, 4, 8 or 16 bytes
abbrev pub signed_type : ℕ → IntType
signed_type bytes =
    if bytes == 1 then I8 else if bytes == 2 then I16 else if bytes == 4 then I32 else if bytes == 8 then I64 else I128

-- the unsigned type of 1, 2, 4, 8 or 16 bytes
abbrev pub unsigned_type : ℕ → IntType
unsigned_type bytes =
    if bytes == 1 then U8 else if bytes == 2 then U16 else if bytes == 4 then U32 else if bytes == 8 then U64 else U128

-- the integer type, with its name, width and numbers
abbrev pub int_type : NumericType → IntType
int_type ty = if ty.signed then signed_type ty.byte_width else unsigned_type ty.byte_width
