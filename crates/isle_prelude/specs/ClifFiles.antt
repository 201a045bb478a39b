-- The definitions of the two files of instructions: that of an optimizer, and that of lowering.
use Rattle.std.specs.Prelude.{ℕ, pos, List, [], ◌∷◌, ◌++◌, map, length, Option, Some, None, Bool, true, false, slice_get, codes}
use Rattle.std.specs.List.{flat_map}
use Rattle.isle_ast.specs.Tree.{Def, Pattern, Expr}
use Rattle.isle_ast.specs.Tree as tree
use Rattle.isle_ast.specs.Views.{patterns_of, exprs_of}
use Rattle.isle_meta.specs.declared.clif.ClifOperand.{ClifOperand}
use Rattle.isle_meta.specs.declared.clif.Instruction.{Instruction}
use Rattle.isle_meta.specs.declared.clif.InstructionFormat.{InstructionFormat}
use Rattle.isle_meta.specs.declared.tables.Tables.{Tables}
use Rattle.isle_prelude.specs.CommonDefs.{common_defs}
use Rattle.isle_prelude.specs.Declaring.{plain_decl}
use Rattle.isle_prelude.specs.Manners.{Manner, type_variable, opt_manner, lower_manner}
use Rattle.isle_prelude.specs.NumberedNames.{value_array, value_array_ctor, block_array, unwrap_head}
use Rattle.isle_meta.specs.InstructionRow.{is_value, is_varargs, is_block, is_raw_block}
use Rattle.isle_prelude.specs.Operands.{operand_type, is_imm, names_of}
use Rattle.isle_writing.specs.Erased.{no_place}

-- ---- patterns of operands

-- variables as patterns
abbrev pub variables : List (List ℕ) → List Pattern
variables names = map (λ (name : List ℕ). tree.Var name) names

-- a term over these names
abbrev pub term_over : List ℕ → List (List ℕ) → Pattern
term_over term names = tree.Term term (patterns_of (variables names))

-- a list of values: those in front of it, and the rest of it
abbrev pub list_pattern : (values rest : List (List ℕ)) → Pattern
list_pattern [] rest = term_over (codes "value_list_slice") rest
list_pattern (x ∷ xs) rest = term_over (unwrap_head (length (x ∷ xs))) (x ∷ (xs ++ rest))

-- values that stand in no list: nothing, the one, or an array
abbrev pub counted_pattern : (array : List ℕ) → List (List ℕ) → List Pattern
counted_pattern array [] = []
counted_pattern array (x ∷ []) = tree.Var x ∷ []
counted_pattern array (x ∷ y ∷ names) = term_over array (x ∷ y ∷ names) ∷ []

-- the values of an instruction
abbrev pub value_patterns : (has_list : Bool) → Instruction → List Pattern
value_patterns true i = list_pattern (names_of is_value i) (names_of is_varargs i) ∷ []
value_patterns false i = counted_pattern (value_array (length (names_of is_value i))) (names_of is_value i)

-- its blocks
abbrev pub block_patterns : Instruction → List Pattern
block_patterns i = counted_pattern (block_array (length (names_of is_block i))) (names_of is_block i)

-- its opcode
abbrev pub opcode_term : Instruction → List ℕ
opcode_term i = codes "Opcode." ++ i.camel_name

-- the term of its data
abbrev pub data_term : InstructionFormat → List ℕ
data_term f = codes "InstructionData." ++ f.name

-- its data: the opcode, values, blocks, blocks without arguments, and immediates
abbrev pub data_pattern : InstructionFormat → Instruction → Pattern
data_pattern f i = tree.Term (data_term f) (patterns_of (
    term_over (opcode_term i) []
    ∷ (value_patterns f.has_value_list i
    ++ (block_patterns i
    ++ (variables (names_of is_raw_block i)
    ++ variables (names_of is_imm i))))))

-- ---- the same as expressions, with a term of their own for arrays of values

-- variables as expressions
abbrev pub variable_exprs : List (List ℕ) → List Expr
variable_exprs names = map (λ (name : List ℕ). tree.Name name) names

-- a call on these names
abbrev pub call_on : List ℕ → List (List ℕ) → Expr
call_on term names = tree.Call term (exprs_of (variable_exprs names))

-- values or blocks that stand in no list
abbrev pub counted_expr : (array : List ℕ) → List (List ℕ) → List Expr
counted_expr array [] = []
counted_expr array (x ∷ []) = tree.Name x ∷ []
counted_expr array (x ∷ y ∷ names) = call_on array (x ∷ y ∷ names) ∷ []

-- the data of an instruction without a list of values
abbrev pub data_expr : InstructionFormat → Instruction → Expr
data_expr f i = tree.Call (data_term f) (exprs_of (
    call_on (opcode_term i) []
    ∷ (counted_expr (value_array_ctor (length (names_of is_value i))) (names_of is_value i)
    ++ (counted_expr (block_array (length (names_of is_block i))) (names_of is_block i)
    ++ (variable_exprs (names_of is_raw_block i)
    ++ variable_exprs (names_of is_imm i))))))

-- ---- instructions

-- a thing in front of others, if the instruction's term has the type of its result as its first argument
abbrev pub typed_first : {A : Type 0} → Bool → A → List A → List A
typed_first true x xs = x ∷ xs
typed_first false x xs = xs

-- the names of an instruction's operands, in order
abbrev pub operand_names : Instruction → List (List ℕ)
operand_names i = map (λ (o : ClifOperand). o.name) i.operands_in

-- the parameters of its term
abbrev pub parameters : Manner → Instruction → List (List ℕ)
parameters m i = typed_first m.is_typed type_variable (operand_names i)

-- their types
abbrev pub parameter_types : Manner → Instruction → List (List ℕ)
parameter_types m i = typed_first m.is_typed (codes "Type") (map (λ (o : ClifOperand). operand_type o.class) i.operands_in)

-- the declaration of its term
abbrev pub declaration : Manner → Instruction → Def
declaration m i = plain_decl i.name (parameter_types m i) m.ret

-- its extractor
abbrev pub extractor : Manner → InstructionFormat → Instruction → Def
extractor m f i = tree.Extractor i.name (parameters m i) (tree.Term m.taker (patterns_of (m.in_front ++ (data_pattern f i ∷ [])))) no_place

-- the rule that makes it
abbrev pub making_rule : (maker : List ℕ) → Manner → InstructionFormat → Instruction → Def
making_rule maker m f i =
    tree.Rule None (pos 0) i.name (variables (parameters m i)) []
    (tree.Call maker (exprs_of (typed_first m.is_typed (tree.Name type_variable) (data_expr f i ∷ [])))) no_place

-- that rule, if there is a term that makes
abbrev pub making : Option (List ℕ) → Manner → InstructionFormat → Instruction → List Def
making None m f i = []
making (Some maker) m f i = making_rule maker m f i ∷ []

-- an instruction taken in a manner, or left out
abbrev pub instruction_defs : Option Manner → InstructionFormat → Instruction → List Def
instruction_defs None f i = []
instruction_defs (Some m) f i = declaration m i ∷ extractor m f i ∷ making m.maker m f i

-- ---- files

-- an instruction with its format, taken in the manner of a file; nothing where the format isn't in the list
abbrev pub of_format : (Bool → Instruction → Option Manner) → Option InstructionFormat → Instruction → List Def
of_format manner None i = []
of_format manner (Some f) i = instruction_defs (manner f.has_value_list i) f i

-- the definitions of a file that takes instructions in this manner
abbrev pub file_defs : (Bool → Instruction → Option Manner) → Tables → List Def
file_defs manner t = common_defs t ++ flat_map (λ (i : Instruction). of_format manner (slice_get t.formats i.format) i) t.instructions

-- the file of an optimizer
abbrev pub opt_defs : Tables → List Def
opt_defs = file_defs opt_manner

-- the file of lowering
abbrev pub lower_defs : Tables → List Def
lower_defs = file_defs lower_manner
