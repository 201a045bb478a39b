use Rattle.std.proofs.Common.{rules}
use Rattle.isle_reading.proofs.Steps.{passed, then_got, done_got, then_refuses, bind_refuses}
use Rattle.isle_tables.specs.Reading.{read_counted}
use Rattle.isle_tables.proofs.pieces.counted.Goals as goal

pub returns-in_err-keyword : goal.returns-in_err-keyword
unfolding read_counted
returns-in_err-keyword c = passed _ _ _ _ _ c.from_residual-in_err-keyword.ensures.1 (then_refuses _ _ _ _ _ _ c.in_ok-open.ensures (bind_refuses _ _ _ _ c.in_err-keyword.ensures))

pub returns-in_err-count : goal.returns-in_err-count
unfolding read_counted
returns-in_err-count c = passed _ _ _ _ _ c.from_residual-in_err-count.ensures.1 (then_refuses _ _ _ _ _ _ c.in_ok-open.ensures (then_refuses _ _ _ _ _ _ c.in_ok-keyword.ensures (bind_refuses _ _ _ _ c.in_err-count.ensures)))

pub returns-in_err-close : goal.returns-in_err-close
unfolding read_counted
returns-in_err-close c = passed _ _ _ _ _ c.from_residual-in_err-close.ensures.1 (then_refuses _ _ _ _ _ _ c.in_ok-open.ensures (then_refuses _ _ _ _ _ _ c.in_ok-keyword.ensures (then_refuses _ _ _ _ _ _ c.in_ok-count.ensures (bind_refuses _ _ _ _ c.in_err-close.ensures))))

pub returns : goal.returns
unfolding read_counted
returns c = then_got _ _ _ _ _ _ c.in_ok-open.ensures (then_got _ _ _ _ _ _ c.in_ok-keyword.ensures (then_got _ _ _ _ _ _ c.in_ok-count.ensures (then_got _ _ _ _ _ _ c.in_ok-close.ensures (search (rules, done_got)))))
