use Rattle.std.proofs.Common.{◌++◌, true, string_bytes}
use Rattle.isle_pulley.specs.Display.{format_texts}
use Rattle.isle_pulley.proofs.PieceLaws.{formats_next}
use Rattle.isle_pulley.proofs.display.push_formats.Goals as goal

pub loop-operand-preserved : goal.loop-operand-preserved
loop-operand-preserved c =
    formats_next c.args.operands.now c.loop-operand.operand-index c.operand-item.result c.loop-operand.is_first (string_bytes c.loop-operand.text) (string_bytes c.push_format_of.new.text)
    (string_bytes c.args.text.now ++ format_texts true c.args.operands.now) c.loop-operand-test.true c.operand-item.is c.loop-operand.invariant c.in_ok-push_format_of.ensures
