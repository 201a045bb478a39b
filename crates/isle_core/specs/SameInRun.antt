-- When a run takes two values for equal: as the source does, but for the type names of opaque numbers, which it doesn't know.
use Rattle.std.specs.Prelude.{Bool, true, false, ◌==◌, ◌&&◌}
use Rattle.std.specs.Ordering.{int_eq}
use Rattle.std.specs.Str.{bytes_eq}
use Rattle.isle_core.specs.SameValue.{int_place, same_truth}
use Rattle.isle_core.specs.Value.{Value, Truth, Int, Opaque, Variant, Struct, FieldValues, NoField, Field}

-- whether two values are equal in a run; opaque numbers are by their number alone
unfoldable mutual
  pub same_in_run : Value → Value → Bool
  same_in_run (Truth a) (Truth b) = same_truth a b
  same_in_run (Int of a) (Int ty b) = (int_place of == int_place ty) && int_eq a b
  same_in_run (Opaque of a) (Opaque ty b) = int_eq a b
  same_in_run (Variant of a fs) (Variant ty b gs) = bytes_eq of ty && bytes_eq a b && same_fields_in_run fs gs
  same_in_run (Struct of fs) (Struct ty gs) = bytes_eq of ty && same_fields_in_run fs gs
  same_in_run (Truth a) (Int ty b) = false
  same_in_run (Truth a) (Opaque ty b) = false
  same_in_run (Truth a) (Variant ty b gs) = false
  same_in_run (Truth a) (Struct ty gs) = false
  same_in_run (Int of a) (Truth b) = false
  same_in_run (Int of a) (Opaque ty b) = false
  same_in_run (Int of a) (Variant ty b gs) = false
  same_in_run (Int of a) (Struct ty gs) = false
  same_in_run (Opaque of a) (Truth b) = false
  same_in_run (Opaque of a) (Int ty b) = false
  same_in_run (Opaque of a) (Variant ty b gs) = false
  same_in_run (Opaque of a) (Struct ty gs) = false
  same_in_run (Variant of a fs) (Truth b) = false
  same_in_run (Variant of a fs) (Int ty b) = false
  same_in_run (Variant of a fs) (Opaque ty b) = false
  same_in_run (Variant of a fs) (Struct ty gs) = false
  same_in_run (Struct of fs) (Truth b) = false
  same_in_run (Struct of fs) (Int ty b) = false
  same_in_run (Struct of fs) (Opaque ty b) = false
  same_in_run (Struct of fs) (Variant ty b gs) = false

  pub same_fields_in_run : FieldValues → FieldValues → Bool
  same_fields_in_run NoField NoField = true
  same_fields_in_run (Field name v fs) (Field other w gs) = bytes_eq name other && same_in_run v w && same_fields_in_run fs gs
  same_fields_in_run NoField (Field other w gs) = false
  same_fields_in_run (Field name v fs) NoField = false
