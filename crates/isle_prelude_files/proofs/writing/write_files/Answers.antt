use Rattle.std.proofs.Common.{◌+◌, ◌∙◌, refl, ap}
use Rattle.isle_prelude_files.proofs.WritingLaws.{output_fails, output_written, still_no_seconds}
use Rattle.isle_prelude_files.proofs.writing.write_files.Goals as goal

pub returns-in-Err-Failed-clause-files : goal.returns-in-Err-Failed-clause-files
returns-in-Err-Failed-clause-files g c =
    output_fails c.args.outputs.now c.loop-output.output-index c.loop-output.written _ (g.D.Dir.files c.args.dir.now) (g.D.Dir.files c.loop-output.dir) (g.D.Dir.files c.write_one.new.dir)
    c.loop-output-test.true c.loop-output.invariant.count c.loop-output.invariant.files c.write_one.ensures.others

pub loop-output-preserved : goal.loop-output-preserved
loop-output-preserved g c = record {
  count = ap (λ n. n + 1) c.loop-output.invariant.count;
  files = output_written c.args.outputs.now c.loop-output.output-index _ (g.D.Dir.files c.args.dir.now) (g.D.Dir.files c.loop-output.dir) (g.D.Dir.files c.write_one.new.dir)
      c.loop-output-test.true c.loop-output.invariant.files c.in-Ok.ensures.others c.in-Ok.ensures.holds;
  entries = still_no_seconds (g.D.Dir.files c.args.dir.now) (g.D.Dir.files c.loop-output.dir) (g.D.Dir.files c.write_one.new.dir) _ c.loop-output.invariant.entries c.in-Ok.ensures.entries;
  faults = c.in-Ok.ensures.steady refl ∙ c.loop-output.invariant.faults;
  finds = c.in-Ok.ensures.finds ∙ c.loop-output.invariant.finds;
  given = c.in-Ok.ensures.given ∙ c.loop-output.invariant.given;
}
