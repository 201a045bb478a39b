-- What instructions are as values of rules: an opcode, operands and immediates, by their format.
use Rattle.std.specs.Prelude.{ℕ, zero, suc, List, [], ◌∷◌, ◌++◌, map, Bool, true, false, codes}
use Rattle.isle_ast.specs.Tree.{Def}
use Rattle.isle_ast.specs.declared.tree.AstVariant.{AstVariant}
use Rattle.isle_meta.specs.declared.clif.ImmField.{ImmField}
use Rattle.isle_meta.specs.declared.clif.InstructionFormat.{InstructionFormat}
use Rattle.isle_meta.specs.declared.clif.Instruction.{Instruction}
use Rattle.isle_meta.specs.Immediates.{type_of}
use Rattle.isle_prelude.specs.Declaring.{bare, with_fields, extern_enum}
use Rattle.isle_prelude.specs.NumberedNames.{value_array_type, block_array_type}

-- the field of so many values that stand in no list: none, the one, or an array
abbrev pub counted_values : ℕ → List (List ℕ × List ℕ)
counted_values zero = []
counted_values (suc zero) = (codes "arg", codes "Value") ∷ []
counted_values (suc (suc n)) = (codes "args", value_array_type (suc (suc n))) ∷ []

-- the field of a format's values
abbrev pub value_fields : (has_list : Bool) → ℕ → List (List ℕ × List ℕ)
value_fields true n = (codes "args", codes "ValueList") ∷ []
value_fields false n = counted_values n

-- the field of so many blocks with their arguments
abbrev pub block_fields : ℕ → List (List ℕ × List ℕ)
block_fields zero = []
block_fields (suc zero) = (codes "destination", codes "BlockCall") ∷ []
block_fields (suc (suc n)) = (codes "blocks", block_array_type (suc (suc n))) ∷ []

-- the field of a block without arguments
abbrev pub raw_block_fields : ℕ → List (List ℕ × List ℕ)
raw_block_fields zero = []
raw_block_fields (suc n) = (codes "block", codes "Block") ∷ []

-- the field of an immediate
abbrev pub imm_field : ImmField → List ℕ × List ℕ
imm_field i = (i.member, type_of i)

-- the fields of a format's instructions
abbrev pub format_fields : InstructionFormat → List (List ℕ × List ℕ)
format_fields f =
    (codes "opcode", codes "Opcode")
    ∷ (value_fields f.has_value_list f.num_value_operands
    ++ (block_fields f.num_block_operands
    ++ (raw_block_fields f.num_raw_block_operands
    ++ map imm_field f.imm_fields)))

-- the variant of a format
abbrev pub format_variant : InstructionFormat → AstVariant
format_variant f = with_fields f.name (format_fields f)

-- the types of blocks, opcodes and instructions' data
abbrev pub data_defs : List InstructionFormat → List Instruction → List Def
data_defs fs is =
    extern_enum (codes "Block") []
    ∷ extern_enum (codes "Opcode") (map (λ (i : Instruction). bare i.camel_name) is)
    ∷ extern_enum (codes "InstructionData") (map format_variant fs)
    ∷ []
