-- The names and the types of operands.
use Rattle.std.specs.Prelude.{ℕ, List, [], ◌∷◌, codes}
use Rattle.std.specs.List.{flat_map}
use Rattle.isle_pulley_rows.specs.declared.operand.Operand.{Operand}
use Rattle.isle_pulley_rows.specs.declared.operand.Operand.TheVariants.{Normal, Writable, Binop, Trap}

-- the names of an operand: a binary one's are those of its three parts
abbrev pub names_of : Operand → List (List ℕ)
names_of (Normal name ty) = name ∷ []
names_of (Writable name ty) = name ∷ []
names_of (Binop dst src1 src2) = codes "dst" ∷ codes "src1" ∷ codes "src2" ∷ []
names_of Trap = codes "code" ∷ []

-- the types of an operand, as the row has them
abbrev pub types_of : Operand → List (List ℕ)
types_of (Normal name ty) = ty ∷ []
types_of (Writable name ty) = ty ∷ []
types_of (Binop dst src1 src2) = dst ∷ src1 ∷ src2 ∷ []
types_of Trap = []

-- the names of operands, in order
abbrev pub operand_names : List Operand → List (List ℕ)
operand_names os = flat_map names_of os

-- their types
abbrev pub operand_types : List Operand → List (List ℕ)
operand_types os = flat_map types_of os
