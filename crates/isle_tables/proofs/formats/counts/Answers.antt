use Rattle.std.proofs.Common.{rules}
use Rattle.isle_reading.proofs.Steps.{passed, then_got, done_got, then_refuses, bind_refuses}
use Rattle.isle_tables.specs.Reading.{read_counts}
use Rattle.isle_tables.proofs.formats.counts.Goals as goal

pub returns-in_err-blocks : goal.returns-in_err-blocks
unfolding read_counts
returns-in_err-blocks c = passed _ _ _ _ _ c.from_residual-in_err-blocks.ensures.1 (then_refuses _ _ _ _ _ _ c.in_ok-values.ensures (bind_refuses _ _ _ _ c.in_err-blocks.ensures))

pub returns-in_err-raw : goal.returns-in_err-raw
unfolding read_counts
returns-in_err-raw c = passed _ _ _ _ _ c.from_residual-in_err-raw.ensures.1 (then_refuses _ _ _ _ _ _ c.in_ok-values.ensures (then_refuses _ _ _ _ _ _ c.in_ok-blocks.ensures (bind_refuses _ _ _ _ c.in_err-raw.ensures)))

pub returns : goal.returns
unfolding read_counts
returns c = then_got _ _ _ _ _ _ c.in_ok-values.ensures (then_got _ _ _ _ _ _ c.in_ok-blocks.ensures (then_got _ _ _ _ _ _ c.in_ok-raw.ensures (search (rules, done_got))))
