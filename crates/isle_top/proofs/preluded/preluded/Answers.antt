use Rattle.isle_prelude.specs.ClifFiles.{opt_defs, lower_defs}
use Rattle.isle_top.proofs.preluded.preluded.Goals as goal

pub returns-in-ClifOpt-clause-ok : goal.returns-in-ClifOpt-clause-ok
returns-in-ClifOpt-clause-ok c = rw c.in-ClifOpt.is (c.by_rows.ensures.ok c.args.tables.now (opt_defs c.args.tables.now) c.gen_opt.ensures)

pub returns-in-ClifOpt-clause-err : goal.returns-in-ClifOpt-clause-err
returns-in-ClifOpt-clause-err c = rw c.in-ClifOpt.is (c.by_rows.ensures.err c.args.tables.now (opt_defs c.args.tables.now) c.gen_opt.ensures)

pub returns-in-ClifLower-clause-ok : goal.returns-in-ClifLower-clause-ok
returns-in-ClifLower-clause-ok c = rw c.in-ClifLower.is (c.by_rows-in-ClifLower.ensures.ok c.args.tables.now (lower_defs c.args.tables.now) c.gen_lower.ensures)

pub returns-in-ClifLower-clause-err : goal.returns-in-ClifLower-clause-err
returns-in-ClifLower-clause-err c = rw c.in-ClifLower.is (c.by_rows-in-ClifLower.ensures.err c.args.tables.now (lower_defs c.args.tables.now) c.gen_lower.ensures)
