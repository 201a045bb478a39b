use Rattle.std.proofs.Common.{◌≤◌, ◌-◌, length, map, take}
use Rattle.isle_outside.specs.Sinks.{Took}
use Rattle.isle_core.specs.ErrorLines.{masked}
use Rattle.isle_top.proofs.lines.write_masked.Given as goal

abbrev pub invariant-loop-start : goal.invariant-loop-start
invariant-loop-start g l = record {
  taken : Took (g.S.Sink.taken l.fn.sink) (g.S.Sink.taken l.sink) (map masked (take l.start l.bytes));
  within : l.start ≤ length l.bytes;
  later : g.S.Sink.faults l.fn.sink ≤ g.S.Sink.faults l.sink;
}

abbrev pub decreases-loop-start : goal.decreases-loop-start
decreases-loop-start g l = length l.bytes - l.start
