use Rattle.std.proofs.Common.{rules}
use Rattle.isle_reading.proofs.Steps.{passed, then_got, done_got, then_refuses, bind_refuses}
use Rattle.isle_tables.specs.Reading.{read_format}
use Rattle.isle_tables.proofs.formats.format.Goals as goal

pub returns-in_err-list : goal.returns-in_err-list
unfolding read_format
returns-in_err-list c = passed _ _ _ _ _ c.from_residual-in_err-list.ensures.1 (then_refuses _ _ _ _ _ _ c.in_ok-name.ensures (bind_refuses _ _ _ _ c.in_err-list.ensures))

pub returns-in_err-counts : goal.returns-in_err-counts
unfolding read_format
returns-in_err-counts c = passed _ _ _ _ _ c.from_residual-in_err-counts.ensures.1 (then_refuses _ _ _ _ _ _ c.in_ok-name.ensures (then_refuses _ _ _ _ _ _ c.in_ok-list.ensures (bind_refuses _ _ _ _ c.in_err-counts.ensures)))

pub returns-in_err-typevar : goal.returns-in_err-typevar
unfolding read_format
returns-in_err-typevar c = passed _ _ _ _ _ c.from_residual-in_err-typevar.ensures.1 (then_refuses _ _ _ _ _ _ c.in_ok-name.ensures (then_refuses _ _ _ _ _ _ c.in_ok-list.ensures (then_refuses _ _ _ _ _ _ c.in_ok-counts.ensures (bind_refuses _ _ _ _ c.in_err-typevar.ensures))))

pub returns : goal.returns
unfolding read_format
returns c = then_got _ _ _ _ _ _ c.in_ok-name.ensures (then_got _ _ _ _ _ _ c.in_ok-list.ensures (then_got _ _ _ _ _ _ c.in_ok-counts.ensures (then_got _ _ _ _ _ _ c.in_ok-typevar.ensures (search (rules, done_got)))))
