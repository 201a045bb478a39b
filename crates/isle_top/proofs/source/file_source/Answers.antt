use Rattle.std.proofs.Common.{[], ◌∷◌}
use Rattle.isle_top.proofs.HadLaws.{had_read, read_late}
use Rattle.isle_top.proofs.source.file_source.Goals as goal

pub returns-in-Err-clause-err : goal.returns-in-Err-clause-err
returns-in-Err-clause-err g c =
    had_read c.args.options.now (c.args.name.now ∷ []) (g.D.Dir.files c.args.dir.now) (g.D.Dir.counts c.args.dir.now) (g.D.Dir.counts c.source_at.new.dir) c.in-Err.e c.of_read.result c.of_read.ensures c.in-Err.ensures.err

pub returns-in-Err-clause-unasked : goal.returns-in-Err-clause-unasked
returns-in-Err-clause-unasked g c = λ early. absurd (read_late c.in-Err.e c.of_read.result c.of_read.ensures early)
