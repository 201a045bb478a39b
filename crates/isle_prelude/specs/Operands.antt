-- The operands of an instruction, by kind.
use Rattle.std.specs.Prelude.{ℕ, List, map, filter, Bool, true, false, codes}
use Rattle.isle_meta.specs.declared.clif.ClifOperand.{ClifOperand}
use Rattle.isle_meta.specs.declared.clif.Instruction.{Instruction}
use Rattle.isle_meta.specs.declared.clif.OperandClass.{OperandClass}
use Rattle.isle_meta.specs.declared.clif.OperandClass.TheVariants as class
use Rattle.isle_meta.specs.ShortName.{short_name}

-- the type of an operand in rules
abbrev pub operand_type : OperandClass → List ℕ
operand_type class.Value = codes "Value"
operand_type class.Varargs = codes "ValueSlice"
operand_type class.Block = codes "BlockCall"
operand_type class.RawBlock = codes "Block"
operand_type (class.Imm rust_type) = short_name rust_type

-- whether it is an immediate
abbrev pub is_imm : OperandClass → Bool
is_imm class.Value = false
is_imm class.Varargs = false
is_imm class.Block = false
is_imm class.RawBlock = false
is_imm (class.Imm rust_type) = true

-- the names of an instruction's operands of a kind, in order
abbrev pub names_of : (OperandClass → Bool) → Instruction → List (List ℕ)
names_of is i = map (λ (o : ClifOperand). o.name) (filter (λ (o : ClifOperand). is o.class) i.operands_in)
