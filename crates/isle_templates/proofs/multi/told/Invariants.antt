use Rattle.std.proofs.Common.{take}
use Rattle.isle_templates.specs.Written.{written_of}
use Rattle.isle_templates.proofs.MarkedTerms.{AreMarked}
use Rattle.isle_templates.proofs.multi.told.Given as goal

abbrev pub invariant-loop-term : goal.invariant-loop-term
invariant-loop-term l = AreMarked (written_of l.written) l.fn.flags.items (take l.term-index l.order) l.table.items
