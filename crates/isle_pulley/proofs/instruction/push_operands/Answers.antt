use Rattle.std.proofs.Common.{rules, ◌++◌, string_bytes}
use Rattle.isle_pulley.specs.Pieces.{operands_piece}
use Rattle.isle_pulley.proofs.PieceLaws.{operands_next}
use Rattle.isle_pulley.proofs.instruction.push_operands.Goals as goal

pub loop-operand-preserved : goal.loop-operand-preserved
loop-operand-preserved c = (
  search rules,
  operands_next c.args.operands.now c.loop-operand.operand-index c.operand-item.result c.loop-operand.next.now c.name_behind-next.result.now c.args.last.now (string_bytes c.loop-operand.text) (string_bytes c.push_operand.new.text)
      (string_bytes c.args.text.now ++ operands_piece c.args.first.now c.args.last.now c.args.operands.now) c.loop-operand-test.true c.operand-item.is c.loop-operand.invariant.1 c.in_ok-push_operand.ensures c.name_behind-next.ensures,
)
