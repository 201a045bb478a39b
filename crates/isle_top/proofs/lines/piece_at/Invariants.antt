use Rattle.std.proofs.Common.{◌≡◌, ◌≤◌, ◌<◌, ◌-◌, length, map, take, drop}
use Rattle.isle_core.specs.ErrorLines.{masked}
use Rattle.isle_top.proofs.lines.piece_at.Given as goal

abbrev pub invariant-loop-end : goal.invariant-loop-end
invariant-loop-end l = record {
  some : l.fn.start < l.end;
  within : l.end ≤ length l.fn.bytes;
  plain : map masked (take (l.end - l.fn.start) (drop l.fn.start l.fn.bytes)) ≡ take (l.end - l.fn.start) (drop l.fn.start l.fn.bytes);
}

abbrev pub decreases-loop-end : goal.decreases-loop-end
decreases-loop-end l = length l.fn.bytes - l.end
