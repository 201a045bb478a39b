use Rattle.std.proofs.Common.{rules}
use Rattle.isle_reading.proofs.Steps.{passed, then_got, done_got, then_refuses, bind_refuses}
use Rattle.isle_tables.specs.Reading.{read_binary}
use Rattle.isle_tables.proofs.operations.binary.Goals as goal

pub returns-in_err-push_operands : goal.returns-in_err-push_operands
unfolding read_binary
returns-in_err-push_operands c = passed _ _ _ _ _ c.from_residual-in_err-push_operands.ensures.1 (then_refuses _ _ _ _ _ _ c.in_ok-text.ensures (bind_refuses _ _ _ _ c.in_err-push_operands.ensures))

pub returns-in_err-close : goal.returns-in_err-close
unfolding read_binary
returns-in_err-close c = passed _ _ _ _ _ c.from_residual-in_err-close.ensures.1 (then_refuses _ _ _ _ _ _ c.in_ok-text.ensures (then_refuses _ _ _ _ _ _ c.in_ok-push_operands.ensures (bind_refuses _ _ _ _ c.in_err-close.ensures)))

pub returns : goal.returns
unfolding read_binary
returns c = then_got _ _ _ _ _ _ c.in_ok-text.ensures (then_got _ _ _ _ _ _ c.in_ok-push_operands.ensures (then_got _ _ _ _ _ _ c.in_ok-close.ensures (search (rules, done_got))))
