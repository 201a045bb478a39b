use Rattle.std.proofs.Common.{List, ◌++◌, take}
use Rattle.isle_meta.specs.declared.pulley.PulleyInst.{PulleyInst}
use Rattle.isle_pulley_rows.specs.Told.{AreTermed}
use Rattle.isle_pulley_rows.proofs.terms.push_termed.Given as goal

abbrev pub invariant-loop-row : goal.invariant-loop-row
invariant-loop-row l = (before : List PulleyInst) → AreTermed l.initial.found.items before → AreTermed l.found.items (before ++ take l.row-index l.rows)
