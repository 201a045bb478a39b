-- The text of the rule file, piece by piece, as the code appends it.
use Rattle.std.specs.Prelude.{ℕ, List, [], ◌∷◌, ◌++◌, if◌then◌else◌, codes}
use Rattle.std.specs.List.{flat_map}
use Rattle.isle_ast.specs.Views.{exprs_of}
use Rattle.isle_writing.specs.Text.{exprs_text, named_text, spaced}
use Rattle.isle_pulley_rows.specs.declared.operand.Operand.{Operand}
use Rattle.isle_pulley_rows.specs.declared.operand.Operand.TheVariants.{Normal, Writable, Binop, Trap}
use Rattle.isle_pulley_rows.specs.declared.operation.Operation.{Operation}
use Rattle.isle_pulley.specs.Places.{temporary, written}
use Rattle.isle_pulley_rows.specs.Results.{is_written, results}
use Rattle.isle_pulley.specs.RuleFile.{answer_type, inst_fields, inst_names, param_types, variables}

-- ---- the type of instructions

-- the fields of an operand, each after a blank
abbrev pub fields_piece : Operand → List ℕ
fields_piece o = named_text (inst_fields o)

-- a variant without operands is its name
abbrev pub variant_piece : List ℕ → List Operand → List ℕ
variant_piece name [] = name
variant_piece name (o ∷ os) = codes "(" ++ (name ++ (flat_map fields_piece (o ∷ os) ++ codes ")"))

-- a variant on a line of its own
abbrev pub variant_line : Operation → List ℕ
variant_line op = codes "\n  " ++ variant_piece op.name op.operands

-- how the type begins
unfoldable pub type_head : List ℕ
type_head = codes "(type RawInst (enum"

-- the type
abbrev pub type_piece : List Operation → List ℕ
type_piece ops = type_head ++ (flat_map variant_line ops ++ codes "))\n")

-- ---- declarations

-- a term's types and what it gives, to the end of the line
abbrev pub signature_piece : (types : List (List ℕ)) (answer : List ℕ) → List ℕ
signature_piece types answer = codes " (" ++ (spaced [] types ++ (codes ") " ++ (answer ++ codes ")\n")))

-- a declaration
abbrev pub declaration_piece : Operation → List ℕ
declaration_piece op = codes "(decl pulley_" ++ (op.snake ++ signature_piece (param_types op.operands) (answer_type (results op.operands)))

-- ---- rules

-- the arguments of an operand, each after a blank
abbrev pub arguments_piece : Operand → List ℕ
arguments_piece (Normal name ty) = codes " " ++ name
arguments_piece (Writable name ty) = []
arguments_piece (Binop dst src1 src2) = codes " src1 src2"
arguments_piece Trap = codes " code"

-- what stands for an operand in the instruction, after a blank; what is written has this name
abbrev pub operand_piece : List ℕ → Operand → List ℕ
operand_piece next (Normal name ty) = codes " " ++ name
operand_piece next (Writable name ty) = codes " " ++ next
operand_piece next (Binop dst src1 src2) = codes " " ++ (next ++ codes " src1 src2")
operand_piece next Trap = codes " code"

-- the name of what is written next, behind an operand
abbrev pub name_behind : Operand → (next last : List ℕ) → List ℕ
name_behind o next last = if is_written o then last else next

-- operands in the instruction
abbrev pub operands_piece : (next last : List ℕ) → List Operand → List ℕ
operands_piece next last os = exprs_text (exprs_of (variables (inst_names next last os)))

-- the instruction
unfoldable pub inst_piece : (next last : List ℕ) → Operation → List ℕ
inst_piece next last op = codes "(RawInst." ++ (op.name ++ (operands_piece next last op.operands ++ codes ")"))

-- a place for a while
unfoldable pub place_piece : (name ty : List ℕ) → List ℕ
place_piece name ty = codes "(" ++ (name ++ (codes " " ++ (written ty ++ (codes " (" ++ (temporary ty ++ codes "))")))))

-- what stands before an instruction that is emitted
unfoldable pub emitted_head : List ℕ
emitted_head = codes "(_ Unit (emit "

-- the instruction is emitted
unfoldable pub emitted_piece : (next last : List ℕ) → Operation → List ℕ
emitted_piece next last op = emitted_head ++ (inst_piece next last op ++ codes "))")

-- two places, with a blank behind each
unfoldable pub places_piece : (first second : List ℕ) → List ℕ
places_piece first second = place_piece (codes "dst1") first ++ (codes " " ++ (place_piece (codes "dst2") second ++ codes " "))

-- how a rule with two results ends
unfoldable pub pair_tail : List ℕ
pair_tail = codes ") (value_regs dst1 dst2))"

-- what a rule with two results gives
abbrev pub pair_piece : (first second : List ℕ) → Operation → List ℕ
pair_piece first second op = codes "(let (" ++ (places_piece first second ++ (emitted_piece (codes "dst1") (codes "dst2") op ++ pair_tail))

-- how a rule without results begins
unfoldable pub effect_head : List ℕ
effect_head = codes "(SideEffectNoResult.Inst "

-- what a rule gives, by the types of its results
abbrev pub body_piece : List (List ℕ) → Operation → List ℕ
body_piece [] op = effect_head ++ (inst_piece (codes "dst") (codes "dst") op ++ codes ")")
body_piece (r ∷ []) op =
    codes "(let (" ++ (place_piece (codes "dst") r ++ (codes " " ++ (emitted_piece (codes "dst") (codes "dst") op ++ codes ") dst)")))
body_piece (a ∷ b ∷ more) op = pair_piece a b op

-- a rule's term and its arguments
abbrev pub head_piece : Operation → List ℕ
head_piece op = codes "(rule (pulley_" ++ (op.snake ++ (flat_map arguments_piece op.operands ++ codes ") "))

-- a rule
abbrev pub rule_piece : Operation → List ℕ
rule_piece op = head_piece op ++ (body_piece (results op.operands) op ++ codes ")\n")

-- ---- the file

-- an operation's term and rule
unfoldable pub operation_piece : Operation → List ℕ
operation_piece op = declaration_piece op ++ rule_piece op

-- the file
abbrev pub file_piece : List Operation → List ℕ
file_piece ops = type_piece ops ++ flat_map operation_piece ops
