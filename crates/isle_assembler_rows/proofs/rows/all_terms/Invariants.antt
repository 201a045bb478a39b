use Rattle.std.proofs.Common.{◌≡◌, take, map}
use Rattle.isle_assembler_rows.specs.TermNames.{row_terms}
use Rattle.isle_assembler_rows.proofs.rows.all_terms.Given as goal

abbrev pub invariant-loop-inst : goal.invariant-loop-inst
invariant-loop-inst l = l.terms.items ≡ map row_terms (take l.inst-index l.insts)
