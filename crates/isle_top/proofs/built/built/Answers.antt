use Rattle.std.proofs.Common.{Err, ap, ◌∙◌}
use Rattle.isle_top.proofs.HadLaws.{early_build, not_built}
use Rattle.isle_top.proofs.built.built.Goals as goal

pub returns-in-Err-clause-err : goal.returns-in-Err-clause-err
returns-in-Err-clause-err g c =
    not_built c.args.over.now.tables.now c.args.over.now.options.now c.args.unit.now (g.D.Dir.files c.args.dir.now) (g.D.Dir.counts c.args.dir.now) (g.D.Dir.counts c.build_unit.new.dir) c.in-Err.fail c.of_build.result c.of_build.ensures
    (λ found is. ap g.D.Dir.counts (c.build_unit.ensures.unasked found (c.in-Err.is ∙ ap Err is))) c.in-Err.ensures.err

pub returns-in-Err-clause-unasked : goal.returns-in-Err-clause-unasked
returns-in-Err-clause-unasked g c =
    early_build c.in-Err.fail c.of_build.result _ c.of_build.ensures (λ is. c.build_unit.ensures.unlisted (c.in-Err.is ∙ ap Err is)) (λ found is. c.build_unit.ensures.unasked found (c.in-Err.is ∙ ap Err is))
