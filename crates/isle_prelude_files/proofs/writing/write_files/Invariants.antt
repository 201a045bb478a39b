use Rattle.std.proofs.Common.{◌≡◌}
use Rattle.isle_prelude_files.specs.Outputs.{AddsNoSeconds, files_of}
use Rattle.isle_prelude_files.proofs.WritingLaws.{WrittenTo}
use Rattle.isle_prelude_files.proofs.writing.write_files.Given as goal

abbrev pub invariant-loop-output : goal.invariant-loop-output
invariant-loop-output g l = record {
  count : l.written ≡ l.output-index;
  files : WrittenTo (files_of l.outputs) l.output-index (g.D.Dir.files l.fn.dir) (g.D.Dir.files l.dir);
  entries : AddsNoSeconds (g.D.Dir.files l.fn.dir) (g.D.Dir.files l.dir);
  faults : (g.D.Dir.counts l.dir).faults ≡ (g.D.Dir.counts l.fn.dir).faults;
  finds : (g.D.Dir.counts l.dir).finds ≡ (g.D.Dir.counts l.fn.dir).finds;
  given : (g.D.Dir.counts l.dir).given ≡ (g.D.Dir.counts l.fn.dir).given;
}
