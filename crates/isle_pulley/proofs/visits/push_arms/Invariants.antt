use Rattle.std.proofs.Common.{◌≡◌, ◌++◌, take, string_bytes}
use Rattle.std.specs.List.{flat_map}
use Rattle.isle_pulley.specs.Visits.{visit_arm}
use Rattle.isle_pulley.proofs.visits.push_arms.Given as goal

abbrev pub invariant-loop-op : goal.invariant-loop-op
invariant-loop-op l = string_bytes l.text ≡ string_bytes l.fn.text ++ flat_map visit_arm (take l.op-index l.ops)
