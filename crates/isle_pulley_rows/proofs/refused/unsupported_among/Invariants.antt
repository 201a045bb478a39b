use Rattle.std.proofs.Common.{List}
use Rattle.isle_meta.specs.TableNames.{texts}
use Rattle.isle_meta.specs.declared.pulley.PulleyInst.{PulleyInst}
use Rattle.isle_pulley_rows.specs.Told.{AreTermed}
use Rattle.isle_pulley_rows.proofs.RefusedLaws.{RowsFrom}
use Rattle.isle_pulley_rows.proofs.refused.unsupported_among.Given as goal

abbrev pub invariant-loop-termed : goal.invariant-loop-termed
invariant-loop-termed l = (own : List PulleyInst) → AreTermed l.rows own → RowsFrom (texts l.fn.earlier) own l.termed-index l.met
