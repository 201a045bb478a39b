-- The constants that stand in a path.
use Rattle.std.specs.Prelude.{◌≡◌, ◌⊎◌}
use Rattle.isle_core.specs.declared.Sym.{Sym}
use Rattle.isle_core.specs.Path.{Path, Nowhere, Arg, ConstBool, ConstInt, ConstPrim, Extracted, Called, Chosen, MadeVariant, MadeStruct, VariantField, StructField, Wrapped, Inner, Part, Paths, NoPath, APath}

-- the constant is a path, or stands in what the path is made over
abbrev mutual
  pub StandsIn : Sym → Path → Type 0
  StandsIn c (ConstPrim name) = name ≡ c
  StandsIn c (Extracted term p) = StandsIn c p
  StandsIn c (Called term ps instance) = StandsInAny c ps
  StandsIn c (Chosen p) = StandsIn c p
  StandsIn c (MadeVariant ty variant ps) = StandsInAny c ps
  StandsIn c (MadeStruct ty ps) = StandsInAny c ps
  StandsIn c (VariantField variant field p) = StandsIn c p
  StandsIn c (StructField field p) = StandsIn c p
  StandsIn c (Wrapped p) = StandsIn c p
  StandsIn c (Inner p) = StandsIn c p
  StandsIn c (Part part p) = StandsIn c p
  StandsIn c Nowhere = ⊥
  StandsIn c (Arg i) = ⊥
  StandsIn c (ConstBool ty b) = ⊥
  StandsIn c (ConstInt ty n) = ⊥

  -- it stands in one of these paths
  pub StandsInAny : Sym → Paths → Type 0
  StandsInAny c NoPath = ⊥
  StandsInAny c (APath p ps) = StandsIn c p ⊎ StandsInAny c ps
