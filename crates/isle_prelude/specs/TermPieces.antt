-- The texts of instructions' terms, piece by piece, as the code appends them.
use Rattle.std.specs.Prelude.{ℕ, zero, suc, List, [], ◌++◌, Option, Some, None, Bool, true, false, slice_get, codes}
use Rattle.std.specs.List.{flat_map}
use Rattle.isle_meta.specs.declared.clif.ClifOperand.{ClifOperand}
use Rattle.isle_meta.specs.declared.clif.Instruction.{Instruction}
use Rattle.isle_meta.specs.declared.clif.InstructionFormat.{InstructionFormat}
use Rattle.isle_meta.specs.declared.clif.OperandClass.{OperandClass}
use Rattle.isle_meta.specs.InstructionRow.{count_of, is_block, is_raw_block, is_value, is_varargs}
use Rattle.isle_prelude.specs.FileManners.{file_case, is_typed, making_begin, ret_of, taking_begin}
use Rattle.isle_prelude.specs.InstructionParts.{names_in, operand_types}
use Rattle.isle_prelude.specs.Operands.{is_imm, names_of}
use Rattle.isle_prelude.specs.TypePieces.{common_piece, numbered}
use Rattle.isle_prelude.specs.declared.manners.InstructionFile.{InstructionFile}
use Rattle.isle_prelude.specs.declared.manners.Manner.{Manner}
use Rattle.isle_writing.specs.Text.{spaced}

-- ---- an instruction's data

-- the operands of a kind, each after a blank
abbrev pub kind_piece : (OperandClass → Bool) → Instruction → List ℕ
kind_piece is i = spaced (codes " ") (names_of is i)

-- an array of so many names, whose term is this number between these bytes
abbrev pub several_piece : ℕ → (head tail names : List ℕ) → List ℕ
several_piece n head tail names = codes " (" ++ (numbered head n ++ (tail ++ (names ++ codes ")")))

-- so many names that stand in no list: nothing, the one, or an array
abbrev pub counted_piece : ℕ → (head tail names : List ℕ) → List ℕ
counted_piece zero head tail names = names
counted_piece (suc zero) head tail names = names
counted_piece (suc (suc n)) head tail names = several_piece (suc (suc n)) head tail names

-- the term of a list without values
unfoldable pub slice_term : List ℕ
slice_term = codes "value_list_slice"

-- how the term of a list with values begins
unfoldable pub unwrap_begin : List ℕ
unwrap_begin = codes "unwrap_head_value_list_"

-- the term of a list that begins with so many values
abbrev pub list_term_piece : ℕ → List ℕ
list_term_piece zero = slice_term
list_term_piece (suc n) = numbered unwrap_begin (suc n)

-- a list of values
abbrev pub list_piece : Instruction → List ℕ
list_piece i =
    codes " (" ++ (list_term_piece (count_of is_value i) ++ (kind_piece is_value i ++ (kind_piece is_varargs i ++ codes ")")))

-- the values, in a list or not
abbrev pub values_piece : (has_list : Bool) (tail : List ℕ) → Instruction → List ℕ
values_piece true tail i = list_piece i
values_piece false tail i = counted_piece (count_of is_value i) (codes "value_array_") tail (kind_piece is_value i)

-- the blocks
abbrev pub blocks_piece : Instruction → List ℕ
blocks_piece i = counted_piece (count_of is_block i) (codes "block_array_") [] (kind_piece is_block i)

-- all operands
abbrev pub operands_piece : (has_list : Bool) (tail : List ℕ) → Instruction → List ℕ
operands_piece has_list tail i = values_piece has_list tail i ++ (blocks_piece i ++ (kind_piece is_raw_block i ++ kind_piece is_imm i))

-- how the data begins
unfoldable pub data_begin : List ℕ
data_begin = codes "(InstructionData."

-- the data: in a pattern values stand in a list where the format has one, and in an array without a tail; in an expression they stand in
-- no list, and in an array with the tail `_ctor`
unfoldable pub data_piece : (has_list : Bool) (tail : List ℕ) → InstructionFormat → Instruction → List ℕ
data_piece has_list tail f i =
    data_begin ++ (f.name ++ (codes " (Opcode." ++ (i.camel_name ++ (codes ")" ++ (operands_piece has_list tail i ++ codes ")")))))

-- ---- definitions

-- the types of a term's parameters
abbrev pub types_piece : (typed : Bool) → List ClifOperand → List ℕ
types_piece true os = codes "Type" ++ spaced (codes " ") (operand_types os)
types_piece false os = spaced [] (operand_types os)

-- the declaration of the term
abbrev pub declaration_piece : Manner → Instruction → List ℕ
declaration_piece m i =
    codes "(decl " ++ (i.name ++ (codes " (" ++ (types_piece (is_typed m) i.operands_in ++ (codes ") " ++ (ret_of m ++ codes ")\n")))))

-- the type of the result as a parameter, after a blank, if it is one
abbrev pub type_piece : (typed : Bool) → List ℕ
type_piece true = codes " ty"
type_piece false = []

-- a definition over the parameters: how it begins, the term and its parameters
abbrev pub head_piece : (before : List ℕ) (typed : Bool) → Instruction → List ℕ
head_piece before typed i = before ++ (i.name ++ (type_piece typed ++ (spaced (codes " ") (names_in i.operands_in) ++ codes ") ")))

-- how an extractor begins
unfoldable pub extractor_begin : List ℕ
extractor_begin = codes "(extractor ("

-- the extractor
abbrev pub extractor_piece : Manner → InstructionFormat → Instruction → List ℕ
extractor_piece m f i =
    head_piece extractor_begin (is_typed m) i ++ (taking_begin m ++ (data_piece f.has_value_list [] f i ++ codes "))\n"))

-- how a rule begins
unfoldable pub rule_begin : List ℕ
rule_begin = codes "(rule ("

-- the rule that makes an instruction, with how its right side begins
abbrev pub rule_piece : (begin : List ℕ) → Manner → InstructionFormat → Instruction → List ℕ
rule_piece begin m f i = head_piece rule_begin (is_typed m) i ++ (begin ++ (data_piece false (codes "_ctor") f i ++ codes "))\n"))

-- that rule, if there is a term that makes
abbrev pub making_piece : Option (List ℕ) → Manner → InstructionFormat → Instruction → List ℕ
making_piece None m f i = []
making_piece (Some begin) m f i = rule_piece begin m f i

-- an instruction that is taken
abbrev pub taken_piece : Manner → InstructionFormat → Instruction → List ℕ
taken_piece m f i = declaration_piece m i ++ (extractor_piece m f i ++ making_piece (making_begin m) m f i)

-- ---- files

-- an instruction, if the file takes it
abbrev pub instruction_piece : Option Manner → InstructionFormat → Instruction → List ℕ
instruction_piece None f i = []
instruction_piece (Some m) f i = taken_piece m f i

-- an instruction with its format, if that is there
abbrev pub of_format_piece : InstructionFile → Option InstructionFormat → Instruction → List ℕ
of_format_piece file None i = []
of_format_piece file (Some f) i = instruction_piece (file_case file f.has_value_list i) f i

-- a row of instructions
unfoldable pub row_piece : InstructionFile → List InstructionFormat → Instruction → List ℕ
row_piece file fs i = of_format_piece file (slice_get fs i.format) i

-- a file
abbrev pub file_piece : InstructionFile → List InstructionFormat → List Instruction → List ℕ
file_piece file fs is = common_piece fs is ++ flat_map (row_piece file fs) is
