use Rattle.std.proofs.Common.{◌≡◌, ◌≤◌, ◌+◌, ◌*◌, ◌^◌, take, length}
use Rattle.std.specs.Prelude.{IfSome}
use Rattle.isle_core.specs.Inputs.{bytes_each, AreRead, IsTried}
use Rattle.isle_core.proofs.files.all_texts.Given as goal

abbrev pub invariant-loop-index : goal.invariant-loop-index
invariant-loop-index g l = record {
  read : IfSome (g.D.Dir.files l.fn.dir) (λ fs. AreRead fs (bytes_each (take l.index l.names)) l.read.items);
  count : length l.read.items ≡ l.index;
  files : g.D.Dir.files l.dir ≡ g.D.Dir.files l.fn.dir;
  faults : (g.D.Dir.counts l.dir).faults ≡ (g.D.Dir.counts l.fn.dir).faults;
  tried : IsTried l.index (g.D.Dir.counts l.fn.dir) (g.D.Dir.counts l.dir);
  given : (g.D.Dir.counts l.dir).given ≤ (g.D.Dir.counts l.fn.dir).given + (2 ^ 24 + 1) * l.index;
}
