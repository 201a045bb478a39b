-- The builtin integer types: their numbers, and wrapping to them.
use Rattle.std.specs.Prelude.{◌≡◌, ℕ, ◌<◌, ◌^◌, ℤ, pos, negsuc, ◌+ℤ◌, List, [], ◌∷◌, Bool, true, false, MatchBool, codes, if◌then◌else◌}
use Rattle.std.specs.Int.{Width, w8, w16, w32, w64, w128, cast_signed, int_rem_euclid}
use Rattle.std.specs.Int.RustNames.{FitsSigned, unsigned_abs}
use mir.Val.{bits}
use lib.IntN.{◌*ℤ◌}
use Rattle.isle_core.specs.declared.types.IntType.{IntType}
use Rattle.isle_core.specs.declared.types.IntType.TheVariants.{U8, U16, U32, U64, U128, USize, I8, I16, I32, I64, I128, ISize}

-- the types, in order
abbrev pub int_types : List IntType
int_types = U8 ∷ U16 ∷ U32 ∷ U64 ∷ U128 ∷ USize ∷ I8 ∷ I16 ∷ I32 ∷ I64 ∷ I128 ∷ ISize ∷ []

-- a type's name, in rule texts and in Rust
abbrev pub type_name : IntType → List ℕ
type_name U8 = codes "u8"
type_name U16 = codes "u16"
type_name U32 = codes "u32"
type_name U64 = codes "u64"
type_name U128 = codes "u128"
type_name USize = codes "usize"
type_name I8 = codes "i8"
type_name I16 = codes "i16"
type_name I32 = codes "i32"
type_name I64 = codes "i64"
type_name I128 = codes "i128"
type_name ISize = codes "isize"

-- how wide a type is; usize and isize have 64 bits
abbrev pub width : IntType → Width
width U8 = w8
width U16 = w16
width U32 = w32
width U64 = w64
width U128 = w128
width USize = w64
width I8 = w8
width I16 = w16
width I32 = w32
width I64 = w64
width I128 = w128
width ISize = w64

-- the types whose numbers may lie below 0
abbrev pub is_signed : IntType → Bool
is_signed U8 = false
is_signed U16 = false
is_signed U32 = false
is_signed U64 = false
is_signed U128 = false
is_signed USize = false
is_signed I8 = true
is_signed I16 = true
is_signed I32 = true
is_signed I64 = true
is_signed I128 = true
is_signed ISize = true

-- from 0 on, and below the limit
abbrev pub IsBelow : ℕ → ℤ → Type 0
IsBelow limit (pos n) = n < limit
IsBelow limit (negsuc n) = ⊥

-- a number of the type
abbrev pub IsOf : IntType → ℤ → Type 0
IsOf ty n = MatchBool (is_signed ty) (FitsSigned (width ty) n) (IsBelow (2 ^ bits (width ty)) n)

-- a number of the type that differs from z by a multiple of 2 to the type's width
pub record WrapsTo (ty : IntType) (z n : ℤ) : Type 0 where
  pub within : IsOf ty n
  pub congruent : (k : ℤ) × (z ≡ n +ℤ (k *ℤ pos (2 ^ bits (width ty))))

-- what is left of z after the multiples of 2 to the width
abbrev pub residue : Width → ℤ → ℕ
residue w z = unsigned_abs (int_rem_euclid z (pos (2 ^ bits w)))

-- the number of the type that z wraps to
unfoldable pub wrapped : IntType → ℤ → ℤ
wrapped ty z = if is_signed ty then cast_signed (width ty) (residue (width ty) z) else pos (residue (width ty) z)
