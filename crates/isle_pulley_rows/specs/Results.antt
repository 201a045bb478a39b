-- The results of an operation.
use Rattle.std.specs.Prelude.{ℕ, List, [], ◌∷◌, Bool, true, false}
use Rattle.std.specs.List.{flat_map}
use Rattle.isle_pulley_rows.specs.declared.operand.Operand.{Operand}
use Rattle.isle_pulley_rows.specs.declared.operand.Operand.TheVariants.{Normal, Writable, Binop, Trap}

-- an operand is written
abbrev pub is_written : Operand → Bool
is_written (Normal name ty) = false
is_written (Writable name ty) = true
is_written (Binop dst src1 src2) = true
is_written Trap = false

-- the type of what an operand writes, if it does
abbrev pub result_types : Operand → List (List ℕ)
result_types (Normal name ty) = []
result_types (Writable name ty) = ty ∷ []
result_types (Binop dst src1 src2) = dst ∷ []
result_types Trap = []

-- the types of the results of operands, in order
abbrev pub results : List Operand → List (List ℕ)
results os = flat_map result_types os
