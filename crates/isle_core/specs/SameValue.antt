-- When two values are equal: kind, type and number, names and fields.
use Rattle.std.specs.Prelude.{ℕ, Bool, true, false, ◌==◌, ◌&&◌, not}
use Rattle.std.specs.Ordering.{int_eq}
use Rattle.std.specs.Str.{bytes_eq}
use Rattle.isle_core.specs.declared.types.IntType.{IntType}
use Rattle.isle_core.specs.declared.types.IntType.TheVariants.{U8, U16, U32, U64, U128, USize, I8, I16, I32, I64, I128, ISize}
use Rattle.isle_core.specs.Value.{Value, Truth, Int, Opaque, Variant, Struct, FieldValues, NoField, Field}

-- the place of a type in the list of the integer types
abbrev pub int_place : IntType → ℕ
int_place U8 = 0
int_place U16 = 1
int_place U32 = 2
int_place U64 = 3
int_place U128 = 4
int_place USize = 5
int_place I8 = 6
int_place I16 = 7
int_place I32 = 8
int_place I64 = 9
int_place I128 = 10
int_place ISize = 11

-- whether two truths are one
abbrev pub same_truth : Bool → Bool → Bool
same_truth true b = b
same_truth false b = not b

-- whether two values are equal
unfoldable mutual
  pub same_value : Value → Value → Bool
  same_value (Truth a) (Truth b) = same_truth a b
  same_value (Int of a) (Int ty b) = (int_place of == int_place ty) && int_eq a b
  same_value (Opaque of a) (Opaque ty b) = bytes_eq of ty && int_eq a b
  same_value (Variant of a fs) (Variant ty b gs) = bytes_eq of ty && bytes_eq a b && same_fields fs gs
  same_value (Struct of fs) (Struct ty gs) = bytes_eq of ty && same_fields fs gs
  same_value (Truth a) (Int ty b) = false
  same_value (Truth a) (Opaque ty b) = false
  same_value (Truth a) (Variant ty b gs) = false
  same_value (Truth a) (Struct ty gs) = false
  same_value (Int of a) (Truth b) = false
  same_value (Int of a) (Opaque ty b) = false
  same_value (Int of a) (Variant ty b gs) = false
  same_value (Int of a) (Struct ty gs) = false
  same_value (Opaque of a) (Truth b) = false
  same_value (Opaque of a) (Int ty b) = false
  same_value (Opaque of a) (Variant ty b gs) = false
  same_value (Opaque of a) (Struct ty gs) = false
  same_value (Variant of a fs) (Truth b) = false
  same_value (Variant of a fs) (Int ty b) = false
  same_value (Variant of a fs) (Opaque ty b) = false
  same_value (Variant of a fs) (Struct ty gs) = false
  same_value (Struct of fs) (Truth b) = false
  same_value (Struct of fs) (Int ty b) = false
  same_value (Struct of fs) (Opaque ty b) = false
  same_value (Struct of fs) (Variant ty b gs) = false

  pub same_fields : FieldValues → FieldValues → Bool
  same_fields NoField NoField = true
  same_fields (Field name v fs) (Field other w gs) = bytes_eq name other && same_value v w && same_fields fs gs
  same_fields NoField (Field other w gs) = false
  same_fields (Field name v fs) NoField = false
