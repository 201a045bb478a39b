-- Paths without a chosen item.
use Rattle.std.specs.Prelude.{Bool, true, false, ◌&&◌}
use Rattle.isle_core.specs.Path.{Path, Nowhere, Arg, ConstBool, ConstInt, ConstPrim, Extracted, Called, Chosen, MadeVariant, MadeStruct, VariantField, StructField, Wrapped, Inner, Part, Paths, NoPath, APath}

-- nowhere in a path, or in paths, an item is chosen
abbrev mutual
  pub is_free : Path → Bool
  is_free Nowhere = true
  is_free (Arg i) = true
  is_free (ConstBool ty b) = true
  is_free (ConstInt ty n) = true
  is_free (ConstPrim name) = true
  is_free (Extracted term p) = is_free p
  is_free (Called term ps instance) = are_free ps
  is_free (Chosen p) = false
  is_free (MadeVariant ty variant ps) = are_free ps
  is_free (MadeStruct ty ps) = are_free ps
  is_free (VariantField variant field p) = is_free p
  is_free (StructField field p) = is_free p
  is_free (Wrapped p) = is_free p
  is_free (Inner p) = is_free p
  is_free (Part part p) = is_free p

  pub are_free : Paths → Bool
  are_free NoPath = true
  are_free (APath p ps) = is_free p && are_free ps
