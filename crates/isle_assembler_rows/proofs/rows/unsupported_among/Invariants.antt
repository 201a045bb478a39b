use Rattle.isle_meta.specs.TableNames.{texts}
use Rattle.isle_assembler_rows.proofs.RowLaws.{InstsFrom}
use Rattle.isle_assembler_rows.proofs.rows.unsupported_among.Given as goal

abbrev pub invariant-loop-k : goal.invariant-loop-k
invariant-loop-k l = InstsFrom (texts l.fn.earlier) l.insts l.k l.met
