-- When two paths are one.
use Rattle.std.specs.Prelude.{ℕ, ℤ, pos, negsuc, List, [], ◌∷◌, ◌++◌, Bool, true, false}
use Rattle.std.specs.Str.{bytes_eq}
use Rattle.isle_core.specs.Path.{Path, Nowhere, Arg, ConstBool, ConstInt, ConstPrim, Extracted, Called, Chosen, MadeVariant, MadeStruct, VariantField, StructField, Wrapped, Inner, Part, Paths, NoPath, APath}

-- a truth as a number
abbrev pub truth_code : Bool → ℕ
truth_code false = 0
truth_code true = 1

-- an integer as two numbers
abbrev pub int_code : ℤ → List ℕ
int_code (pos n) = 0 ∷ n ∷ []
int_code (negsuc n) = 1 ∷ n ∷ []

-- a path written out as numbers: its form, and then its parts
abbrev mutual
  pub path_code : Path → List ℕ
  path_code Nowhere = 0 ∷ []
  path_code (Arg i) = 1 ∷ i ∷ []
  path_code (ConstBool ty b) = 2 ∷ ty.0 ∷ truth_code b ∷ []
  path_code (ConstInt ty n) = 3 ∷ ty.0 ∷ int_code n
  path_code (ConstPrim name) = 4 ∷ name.0 ∷ []
  path_code (Extracted term p) = 5 ∷ term.0 ∷ path_code p
  path_code (Called term ps instance) = 6 ∷ term.0 ∷ instance ∷ paths_code ps
  path_code (Chosen p) = 7 ∷ path_code p
  path_code (MadeVariant ty variant ps) = 8 ∷ ty.0 ∷ variant.0 ∷ paths_code ps
  path_code (MadeStruct ty ps) = 9 ∷ ty.0 ∷ paths_code ps
  path_code (VariantField variant field p) = 10 ∷ variant.0 ∷ field ∷ path_code p
  path_code (StructField field p) = 11 ∷ field ∷ path_code p
  path_code (Wrapped p) = 12 ∷ path_code p
  path_code (Inner p) = 13 ∷ path_code p
  path_code (Part part p) = 14 ∷ part ∷ path_code p

  -- so of paths in order
  pub paths_code : Paths → List ℕ
  paths_code NoPath = 0 ∷ []
  paths_code (APath p ps) = 1 ∷ (path_code p ++ paths_code ps)

-- whether two paths are one: they are written alike
abbrev pub same_path : Path → Path → Bool
same_path p q = bytes_eq (path_code p) (path_code q)
