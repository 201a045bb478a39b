use Rattle.std.proofs.Common.{rules}
use Rattle.isle_reading.proofs.Steps.{passed}
use Rattle.isle_tables.proofs.Steps.{placed_got, placed_refuses}
use Rattle.isle_tables.proofs.pieces.placed.Goals as goal

pub returns-in_err-word : goal.returns-in_err-word
returns-in_err-word c = passed _ _ _ _ _ c.from_residual.ensures.1 (placed_refuses _ _ c.in_err-word.ensures)

pub returns : goal.returns
returns c = placed_got _ _ _ _ _ c.in_ok-word.ensures (search rules) c.place-at.ensures
