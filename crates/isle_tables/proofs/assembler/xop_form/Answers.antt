use Rattle.std.proofs.Common.{rules}
use Rattle.isle_reading.proofs.Steps.{passed, then_got, done_got, then_refuses, bind_refuses}
use Rattle.isle_tables.specs.Reading.{read_xop_form}
use Rattle.isle_tables.proofs.assembler.xop_form.Goals as goal

pub returns-in_err-kind : goal.returns-in_err-kind
unfolding read_xop_form
returns-in_err-kind c = passed _ _ _ _ _ c.from_residual-in_err-kind.ensures.1 (then_refuses _ _ _ _ _ _ c.in_ok-bits.ensures (bind_refuses _ _ _ _ c.in_err-kind.ensures))

pub returns-in_err-mutability : goal.returns-in_err-mutability
unfolding read_xop_form
returns-in_err-mutability c = passed _ _ _ _ _ c.from_residual-in_err-mutability.ensures.1 (then_refuses _ _ _ _ _ _ c.in_ok-bits.ensures (then_refuses _ _ _ _ _ _ c.in_ok-kind.ensures (bind_refuses _ _ _ _ c.in_err-mutability.ensures)))

pub returns : goal.returns
unfolding read_xop_form
returns c = then_got _ _ _ _ _ _ c.in_ok-bits.ensures (then_got _ _ _ _ _ _ c.in_ok-kind.ensures (then_got _ _ _ _ _ _ c.in_ok-mutability.ensures (search (rules, done_got))))
