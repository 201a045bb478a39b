-- The first item of the Rust text: how an instruction is shown.
use Rattle.std.specs.Prelude.{ℕ, List, [], ◌∷◌, ◌++◌, Bool, true, false, ◌&&◌, not, if◌then◌else◌, codes}
use Rattle.std.specs.List.{flat_map}
use Rattle.std.specs.Str.{bytes_eq}
use Rattle.isle_pulley_rows.specs.declared.operand.Operand.{Operand}
use Rattle.isle_pulley_rows.specs.declared.operand.Operand.TheVariants.{Normal, Writable, Binop, Trap}
use Rattle.isle_pulley_rows.specs.declared.operation.Operation.{Operation}
use Rattle.isle_pulley_rows.specs.Words.{is_register}

-- ---- PAT: the variables that an arm binds, all of its operands

-- a name and a comma
abbrev pub listed : List ℕ → List ℕ
listed name = name ++ codes ", "

-- PAT of an operand
abbrev pub pattern_text : Operand → List ℕ
pattern_text (Normal name ty) = listed name
pattern_text (Writable name ty) = listed name
pattern_text (Binop dst src1 src2) = codes "dst, src1, src2, "
pattern_text Trap = codes "code, "

-- ---- FORMAT: what is written of an instruction

-- the type is the set of upper registers
abbrev pub is_set : List ℕ → Bool
is_set ty = bytes_eq ty (codes "UpperXRegSet")

-- what ends the form of a value of this type: a set is shown as for debugging
abbrev pub form_end : List ℕ → List ℕ
form_end ty = if is_set ty then codes ":?}" else codes "}"

-- how a value of this type is shown
abbrev pub shown : (name ty : List ℕ) → List ℕ
shown name ty = codes " {" ++ (name ++ form_end ty)

-- a comma before each operand but the row's first
abbrev pub comma : (is_first : Bool) → List ℕ
comma true = []
comma false = codes ","

-- FORMAT of an operand
abbrev pub format_text : (is_first : Bool) → Operand → List ℕ
format_text is_first (Normal name ty) = comma is_first ++ shown name ty
format_text is_first (Writable name ty) = comma is_first ++ shown name ty
format_text is_first (Binop dst src1 src2) = codes " {dst}, {src1}, {src2}"
format_text is_first Trap = codes " // trap={code:?}"

-- FORMAT of operands, after the operation's name in words
abbrev pub format_texts : (is_first : Bool) → List Operand → List ℕ
format_texts is_first [] = []
format_texts is_first (o ∷ os) = format_text is_first o ++ format_texts false os

-- ---- LOCALS: registers by their names

-- the name of a register that is written
unfoldable pub written_local : List ℕ → List ℕ
written_local name = codes "                let " ++ (name ++ (codes " = RegNameDisplay(*" ++ (name ++ codes ".to_reg());\n")))

-- the name of one that is read
unfoldable pub read_local : List ℕ → List ℕ
read_local name = codes "                let " ++ (name ++ (codes " = RegNameDisplay(**" ++ (name ++ codes ");\n")))

-- a text, if it is to stand there
abbrev pub where_true : Bool → List ℕ → List ℕ
where_true stands text = if stands then text else []

-- LOCALS of an operand: what is written, and what is read but a set; of binary ones the last only if it is a register
abbrev pub local_text : Operand → List ℕ
local_text (Normal name ty) = where_true (is_register ty && not (is_set ty)) (read_local name)
local_text (Writable name ty) = where_true (is_register ty) (written_local name)
local_text (Binop dst src1 src2) =
    written_local (codes "dst") ++ (read_local (codes "src1") ++ where_true (is_register src2) (read_local (codes "src2")))
local_text Trap = []

-- ---- the item

-- how an arm begins: the instruction's name, and what follows it
unfoldable pub arm_head : List ℕ → List ℕ
arm_head name = codes "            RawInst::" ++ (name ++ codes " { ")

-- how a display's arm goes on behind PAT
unfoldable pub arm_opening : List ℕ
arm_opening = codes "} => {\n"

-- how it goes on behind LOCALS
unfoldable pub write_head : List ℕ
write_head = codes "                write!(f, \""

-- how it ends
unfoldable pub write_tail : List ℕ
write_tail = codes "\")\n            }\n"

-- write!(f, "FORMAT"): the operation's name in words, and its operands
abbrev pub write_text : Operation → List ℕ
write_text op = write_head ++ (op.snake ++ (format_texts true op.operands ++ write_tail))

-- RawInst::NAME { PAT } => { LOCALS write!(f, "FORMAT") }
abbrev pub display_arm : Operation → List ℕ
display_arm op =
    arm_head op.name ++ (flat_map pattern_text op.operands ++ (arm_opening ++ (flat_map local_text op.operands ++ write_text op)))

-- how the item begins
unfoldable pub display_head : List ℕ
display_head =
    codes "impl<'a> std::fmt::Display for RawInstDisplay<'a> {\n    fn fmt(&self, f: &mut std::fmt::Formatter<'_>) -> std::fmt::Result {\n"
    ++ codes "        let inst = self.0;\n        match inst {\n"

-- how it ends
unfoldable pub display_tail : List ℕ
display_tail = codes "        }\n    }\n}\n"

-- the item that shows instructions, with an arm for each operation
abbrev pub display_item : List Operation → List ℕ
display_item ops = display_head ++ (flat_map display_arm ops ++ display_tail)
