use Rattle.std.proofs.Common.{◌≤◌, ◌^◌}
use Rattle.isle_outside.proofs.std_dir.names_in.Given as goal

abbrev pub invariant-loop-entry : goal.invariant-loop-entry
invariant-loop-entry g l = l.seen ≤ 2 ^ 24
