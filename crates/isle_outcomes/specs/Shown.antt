-- How values, answers and calls are shown.
use Rattle.std.specs.Prelude.{ℕ, suc, ℤ, pos, negsuc, List, [], ◌∷◌, ◌++◌, Bool, true, false, codes}
use Rattle.std.specs.Int.{w128, cast_unsigned}
use Rattle.isle_printer.specs.Number.{numeral}
use Rattle.isle_core.specs.declared.types.IntType.{IntType}
use Rattle.isle_core.specs.declared.types.IntType.TheVariants as int
use Rattle.isle_core.specs.declared.values.Callee.{Callee}
use Rattle.isle_core.specs.declared.values.Callee.TheVariants as callee
use Rattle.isle_core.specs.Value.{Value, Truth, Int, Opaque, Variant, Struct, FieldValues, NoField, Field}

-- a truth in words
abbrev pub truth_text : Bool → List ℕ
truth_text true = codes "true"
truth_text false = codes "false"

-- a number in decimal
abbrev pub number_text : ℤ → List ℕ
number_text (pos n) = numeral 10 n
number_text (negsuc n) = codes "-" ++ numeral 10 (suc n)

-- the number that a value of the type holds: u128 is held as its 128 signed bits
abbrev pub shown : IntType → ℤ → ℤ
shown int.U8 n = n
shown int.U16 n = n
shown int.U32 n = n
shown int.U64 n = n
shown int.U128 n = pos (cast_unsigned w128 n)
shown int.USize n = n
shown int.I8 n = n
shown int.I16 n = n
shown int.I32 n = n
shown int.I64 n = n
shown int.I128 n = n
shown int.ISize n = n

-- what stands before the fields of a variant
abbrev pub variant_head : (ty variant : List ℕ) → List ℕ
variant_head ty variant = codes "(" ++ (ty ++ (codes "." ++ variant))

-- what stands before those of a struct
abbrev pub struct_head : (ty : List ℕ) → List ℕ
struct_head ty = codes "(" ++ ty

-- a value as it is written in a rule's place: a number, a truth, or a name in parentheses with what it holds
abbrev mutual
  pub value_text : Value → List ℕ
  value_text (Truth b) = truth_text b
  value_text (Int ty n) = number_text (shown ty n)
  value_text (Opaque ty n) = number_text n
  value_text (Variant ty variant fields) = variant_head ty variant ++ (fields_text fields ++ codes ")")
  value_text (Struct ty fields) = struct_head ty ++ (fields_text fields ++ codes ")")

  -- each field after a blank
  pub fields_text : FieldValues → List ℕ
  fields_text NoField = []
  fields_text (Field name v fields) = codes " " ++ (value_text v ++ fields_text fields)

-- what a call goes to
abbrev pub callee_text : Callee → List ℕ
callee_text (callee.External name) = codes "C::" ++ name
callee_text (callee.Internal term) = codes "constructor_" ++ term
