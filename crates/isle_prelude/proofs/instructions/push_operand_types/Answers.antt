use Rattle.std.proofs.Common.{rules, ◌++◌, string_bytes}
use Rattle.isle_prelude.specs.InstructionParts.{operand_types}
use Rattle.isle_writing.specs.Text.{spaced}
use Rattle.isle_prelude.proofs.TextLaws.{types_next}
use Rattle.isle_prelude.proofs.instructions.push_operand_types.Goals as goal

pub loop-operand-preserved : goal.loop-operand-preserved
loop-operand-preserved c = (
  search rules,
  types_next c.args.operands.now c.loop-operand.operand-index c.operand-item.result c.loop-operand.before.now c.operand_type.result.now (string_bytes c.loop-operand.text) (string_bytes c.push_two.new.text)
      (string_bytes c.args.text.now ++ spaced c.args.first.now (operand_types c.args.operands.now)) c.loop-operand-test.true c.operand-item.is c.operand_type.ensures c.loop-operand.invariant.1 c.in_ok-push_two.ensures,
)
