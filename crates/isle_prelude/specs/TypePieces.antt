-- The texts of types and arrays, piece by piece, as the code appends them.
use Rattle.std.specs.Prelude.{ℕ, zero, suc, List, [], ◌++◌, map, filter, not, Bool, true, false, codes}
use Rattle.std.specs.List.{flat_map}
use Rattle.isle_meta.specs.declared.clif.ImmField.{ImmField}
use Rattle.isle_meta.specs.declared.clif.Instruction.{Instruction}
use Rattle.isle_meta.specs.declared.clif.InstructionFormat.{InstructionFormat}
use Rattle.isle_meta.specs.FormatRow.{all_fields}
use Rattle.isle_meta.specs.Immediates.{type_of}
use Rattle.isle_prelude.specs.Ascending.{ascending}
use Rattle.isle_prelude.specs.Arrays.{block_array_sizes, value_array_sizes}
use Rattle.isle_prelude.specs.Immediates.{enum_types, enum_values, is_enum, plain_types}
use Rattle.isle_printer.specs.Number.{numeral}
use Rattle.isle_writing.specs.Text.{field_text}

-- a number after these bytes
unfoldable pub numbered : List ℕ → ℕ → List ℕ
numbered head n = head ++ numeral 10 n

-- ---- types

-- ( type N ( primitive N ) )
unfoldable pub primitive_piece : List ℕ → List ℕ
primitive_piece name = codes "(type " ++ (name ++ (codes " (primitive " ++ (name ++ codes "))\n")))

-- how an enum begins that is defined elsewhere
unfoldable pub enum_head : List ℕ → List ℕ
enum_head name = codes "(type " ++ (name ++ codes " extern (enum")

-- an enum of these variants
abbrev pub enum_piece : (name variants : List ℕ) → List ℕ
enum_piece name variants = enum_head name ++ (variants ++ codes "))\n")

-- a variant without fields, on a line of its own
unfoldable pub bare_line : List ℕ → List ℕ
bare_line name = codes "\n  " ++ name

-- ---- immediates

-- whether an immediate is an enum, or else whether it is none
abbrev pub is_kept : (enums : Bool) → ImmField → Bool
is_kept true = is_enum
is_kept false = λ (i : ImmField). not (is_enum i)

-- the types of immediates that are enums, or else of those that are none
abbrev pub types_kept : (enums : Bool) → List ImmField → List (List ℕ)
types_kept enums is = ascending (map type_of (filter (is_kept enums) is))

-- the enum of immediates of this type
abbrev pub imm_enum_piece : List ImmField → List ℕ → List ℕ
imm_enum_piece fields name = enum_piece name (flat_map bare_line (enum_values fields name))

-- the types of immediates
abbrev pub imm_piece : List ImmField → List ℕ
imm_piece fields =
    flat_map primitive_piece (plain_types fields) ++ (primitive_piece (codes "MemFlagsData") ++ flat_map (imm_enum_piece fields) (enum_types fields))

-- ---- arrays

-- the item behind so many others, with a blank between them
abbrev pub item_piece : ℕ → List ℕ → List ℕ
item_piece zero item = item
item_piece (suc n) item = codes " " ++ item

-- so many items, with blanks between them
abbrev pub items_piece : ℕ → List ℕ → List ℕ
items_piece zero item = []
items_piece (suc n) item = items_piece n item ++ item_piece n item

-- how the type of an array ends
unfoldable pub empty_tail : List ℕ
empty_tail = codes " extern (enum))\n"

-- the type of an array
abbrev pub array_type_piece : (array_type : List ℕ) → ℕ → List ℕ
array_type_piece array_type n = codes "(type " ++ (numbered array_type n ++ empty_tail)

-- the declaration of an array's term
abbrev pub array_decl_piece : (term array_type item : List ℕ) → ℕ → List ℕ
array_decl_piece term array_type item n =
    codes "(decl " ++ (numbered term n ++ (codes " (" ++ (items_piece n item ++ (codes ") " ++ (numbered array_type n ++ codes ")\n")))))

-- what stands before a term that a function makes
unfoldable pub made_head : List ℕ
made_head = codes "(extern constructor "

-- and before one that a function takes apart
unfoldable pub taken_head : List ℕ
taken_head = codes "(extern extractor infallible "

-- a function for an array's term
abbrev pub function_piece : (head before term : List ℕ) → ℕ → List ℕ
function_piece head before term n = head ++ (numbered term n ++ (before ++ (numbered term n ++ codes ")\n")))

-- an array
unfoldable pub array_piece : (term array_type item : List ℕ) → ℕ → List ℕ
array_piece term array_type item n =
    array_type_piece array_type n
    ++ (array_decl_piece term array_type item n
    ++ (function_piece made_head (codes " pack_") term n
    ++ function_piece taken_head (codes " unpack_") term n))

-- an array of values
unfoldable pub value_array_piece : ℕ → List ℕ
value_array_piece = array_piece (codes "value_array_") (codes "ValueArray") (codes "Value")

-- an array of blocks with their arguments
unfoldable pub block_array_piece : ℕ → List ℕ
block_array_piece = array_piece (codes "block_array_") (codes "BlockArray") (codes "BlockCall")

-- all arrays
abbrev pub arrays_piece : List InstructionFormat → List ℕ
arrays_piece fs = flat_map value_array_piece (value_array_sizes fs) ++ flat_map block_array_piece (block_array_sizes fs)

-- ---- instructions' data

-- the field of a format's values
abbrev pub value_fields_piece : (has_list : Bool) → ℕ → List ℕ
value_fields_piece true n = field_text (codes "args") (codes "ValueList")
value_fields_piece false zero = []
value_fields_piece false (suc zero) = field_text (codes "arg") (codes "Value")
value_fields_piece false (suc (suc n)) = field_text (codes "args") (numbered (codes "ValueArray") (suc (suc n)))

-- the field of its blocks
abbrev pub block_fields_piece : ℕ → List ℕ
block_fields_piece zero = []
block_fields_piece (suc zero) = field_text (codes "destination") (codes "BlockCall")
block_fields_piece (suc (suc n)) = field_text (codes "blocks") (numbered (codes "BlockArray") (suc (suc n)))

-- the field of a block without arguments
abbrev pub raw_block_piece : ℕ → List ℕ
raw_block_piece zero = []
raw_block_piece (suc n) = field_text (codes "block") (codes "Block")

-- the field of an immediate
abbrev pub imm_field_piece : ImmField → List ℕ
imm_field_piece i = field_text i.member (type_of i)

-- the fields of a format's instructions beside the opcode
abbrev pub fields_piece : InstructionFormat → List ℕ
fields_piece f =
    value_fields_piece f.has_value_list f.num_value_operands
    ++ (block_fields_piece f.num_block_operands
    ++ (raw_block_piece f.num_raw_block_operands
    ++ flat_map imm_field_piece f.imm_fields))

-- the field of the opcode
unfoldable pub opcode_field : List ℕ
opcode_field = codes " (opcode Opcode)"

-- the variant of a format, on a line of its own
unfoldable pub format_line : InstructionFormat → List ℕ
format_line f = codes "\n  (" ++ (f.name ++ (opcode_field ++ (fields_piece f ++ codes ")")))

-- the opcode of an instruction, on a line of its own
unfoldable pub opcode_line : Instruction → List ℕ
opcode_line i = bare_line i.camel_name

-- the types of blocks, opcodes and instructions' data
abbrev pub data_types_piece : List InstructionFormat → List Instruction → List ℕ
data_types_piece fs is =
    enum_piece (codes "Block") []
    ++ (enum_piece (codes "Opcode") (flat_map opcode_line is)
    ++ enum_piece (codes "InstructionData") (flat_map format_line fs))

-- ---- what both files begin with

-- immediates, arrays, and instructions' data
abbrev pub common_piece : List InstructionFormat → List Instruction → List ℕ
common_piece fs is = imm_piece (all_fields fs) ++ (arrays_piece fs ++ data_types_piece fs is)
