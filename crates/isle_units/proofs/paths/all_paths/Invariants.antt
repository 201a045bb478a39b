use Rattle.std.proofs.Common.{◌≡◌, take}
use Rattle.std.specs.Prelude.{IfSome}
use Rattle.isle_core.specs.Inputs.{bytes_each, IsTried}
use Rattle.isle_units.specs.Paths.{ArePaths}
use Rattle.isle_units.proofs.paths.all_paths.Given as goal

abbrev pub invariant-loop-index : goal.invariant-loop-index
invariant-loop-index g l = record {
  paths : IfSome (g.D.Dir.files l.fn.dir) (λ fs. ArePaths fs (bytes_each (take l.index l.inputs)) (bytes_each l.paths.items));
  files : g.D.Dir.files l.dir ≡ g.D.Dir.files l.fn.dir;
  faults : (g.D.Dir.counts l.dir).faults ≡ (g.D.Dir.counts l.fn.dir).faults;
  tried : IsTried l.index (g.D.Dir.counts l.fn.dir) (g.D.Dir.counts l.dir);
  given : (g.D.Dir.counts l.dir).given ≡ (g.D.Dir.counts l.fn.dir).given;
}
