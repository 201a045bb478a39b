use Rattle.std.proofs.Common.{Err, ap, ◌∙◌}
use Rattle.isle_top.proofs.HadLaws.{early_build, had_unit}
use Rattle.isle_top.proofs.source.unit_source.Goals as goal

pub returns-in-Err-clause-err : goal.returns-in-Err-clause-err
returns-in-Err-clause-err g c =
    had_unit c.args.over.now.tables.now c.args.over.now.options.now c.args.unit.now (g.D.Dir.files c.args.dir.now) (g.D.Dir.counts c.args.dir.now) (g.D.Dir.counts c.unit_files.new.dir) c.in-Err.fail c.of_build.result c.of_build.ensures
    (λ found is. ap g.D.Dir.counts (c.unit_files.ensures.unasked found (c.in-Err.is ∙ ap Err is))) c.in-Err.ensures.err

pub returns-in-Err-clause-unasked : goal.returns-in-Err-clause-unasked
returns-in-Err-clause-unasked g c =
    early_build c.in-Err.fail c.of_build.result _ c.of_build.ensures (λ is. c.unit_files.ensures.unlisted (c.in-Err.is ∙ ap Err is)) (λ found is. c.unit_files.ensures.unasked found (c.in-Err.is ∙ ap Err is))
