use Rattle.std.proofs.Common.{◌≡◌, ◌++◌, drop}
use Rattle.isle_tree.specs.WellFormed.{field_locals}
use Rattle.isle_judging.proofs.binding.bind_fields.Given as goal

abbrev pub invariant-loop-bind : goal.invariant-loop-bind
invariant-loop-bind l = l.bound ++ field_locals (drop l.bind-index l.binds) ≡ l.fn.bound ++ field_locals l.binds
