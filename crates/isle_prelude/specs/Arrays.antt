-- The arrays that instructions hold their operands in.
use Rattle.std.specs.Prelude.{ℕ, List, [], ◌∷◌, ◌++◌, filter_map, replicate, Option, Some, None, Bool, true, false, if◌then◌else◌, ◌==◌, codes}
use Rattle.std.specs.List.{flat_map}
use Rattle.isle_ast.specs.Tree.{Def}
use Rattle.isle_meta.specs.declared.clif.InstructionFormat.{InstructionFormat}
use Rattle.isle_prelude.specs.Ascending.{ascending_numbers}
use Rattle.isle_prelude.specs.Declaring.{extern_enum, plain_decl, made_by, always_taken_by}
use Rattle.isle_prelude.specs.NumberedNames.{value_array, value_array_type, block_array, block_array_type, pack, unpack}

-- this number, if it is told whether there is a controlling type, and that neither a list nor a single value stands for it
abbrev pub sized : (typevar : Option ℕ) (has_list is_one : Bool) → ℕ → Option ℕ
sized None has_list is_one n = None
sized (Some operand) true is_one n = None
sized (Some operand) false true n = None
sized (Some operand) false false n = Some n

-- how many values the instructions of a format hold in an array
abbrev pub value_array_size : InstructionFormat → Option ℕ
value_array_size f = sized f.typevar_operand f.has_value_list (f.num_value_operands == 1) f.num_value_operands

-- the sizes of arrays of values, ascending
abbrev pub value_array_sizes : List InstructionFormat → List ℕ
value_array_sizes fs = ascending_numbers (filter_map value_array_size fs)

-- this number, if it is not 0 or 1
abbrev pub above_one : ℕ → Option ℕ
above_one n = if n == 0 then None else (if n == 1 then None else Some n)

-- the sizes of arrays of blocks, ascending
abbrev pub block_array_sizes : List InstructionFormat → List ℕ
block_array_sizes fs = ascending_numbers (filter_map (λ (f : InstructionFormat). above_one f.num_block_operands) fs)

-- an array of so many things of a type: its type, and the term that packs it and takes it apart
abbrev pub array_defs : (array array_type item : List ℕ) → ℕ → List Def
array_defs array array_type item n =
    extern_enum array_type []
    ∷ plain_decl array (replicate n item) array_type
    ∷ made_by array (pack array)
    ∷ always_taken_by array (unpack array)
    ∷ []

-- an array of so many values
abbrev pub value_array_defs : ℕ → List Def
value_array_defs n = array_defs (value_array n) (value_array_type n) (codes "Value") n

-- an array of so many blocks with their arguments
abbrev pub block_array_defs : ℕ → List Def
block_array_defs n = array_defs (block_array n) (block_array_type n) (codes "BlockCall") n

-- all arrays that the instructions of formats use
abbrev pub arrays : List InstructionFormat → List Def
arrays fs = flat_map value_array_defs (value_array_sizes fs) ++ flat_map block_array_defs (block_array_sizes fs)
