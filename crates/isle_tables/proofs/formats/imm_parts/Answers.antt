use Rattle.std.proofs.Common.{rules}
use Rattle.isle_reading.proofs.Steps.{passed, then_got, done_got, then_refuses, bind_refuses}
use Rattle.isle_tables.specs.Reading.{read_parts_after}
use Rattle.isle_tables.proofs.formats.imm_parts.Goals as goal

pub returns-in_err-imms : goal.returns-in_err-imms
unfolding read_parts_after
returns-in_err-imms c = passed _ _ _ _ _ c.from_residual-in_err-imms.ensures.1 (then_refuses _ _ _ _ _ _ c.in_ok-first.ensures (bind_refuses _ _ _ _ c.in_err-imms.ensures))

pub returns : goal.returns
unfolding read_parts_after
returns c = then_got _ _ _ _ _ _ c.in_ok-first.ensures (then_got _ _ _ _ _ _ c.in_ok-imms.ensures (search (rules, done_got)))
