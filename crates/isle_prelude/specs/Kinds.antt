-- The kinds of operands.
use Rattle.std.specs.Prelude.{Bool}
use Rattle.isle_meta.specs.InstructionRow.{is_value, is_varargs, is_block, is_raw_block}
use Rattle.isle_meta.specs.declared.clif.OperandClass.{OperandClass}
use Rattle.isle_prelude.specs.Operands.{is_imm}
use Rattle.isle_prelude.specs.declared.operands.Kind.{Kind}
use Rattle.isle_prelude.specs.declared.operands.Kind.TheVariants as kind

-- whether an operand is of the kind
abbrev pub is_of : Kind → OperandClass → Bool
is_of kind.Value = is_value
is_of kind.Varargs = is_varargs
is_of kind.Block = is_block
is_of kind.RawBlock = is_raw_block
is_of kind.Imm = is_imm
