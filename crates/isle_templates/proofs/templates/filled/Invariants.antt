use Rattle.std.proofs.Common.{take}
use Rattle.isle_templates.specs.Written.{written_of}
use Rattle.isle_templates.proofs.FilledTable.{IsFilled}
use Rattle.isle_templates.proofs.templates.filled.Given as goal

abbrev pub invariant-loop-rank : goal.invariant-loop-rank
invariant-loop-rank l = IsFilled (written_of l.written) (take l.rank l.order) l.table.items l.rank
