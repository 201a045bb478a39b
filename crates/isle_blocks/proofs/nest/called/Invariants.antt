use Rattle.std.proofs.Common.{◌≡◌, [], drop}
use Rattle.isle_core.specs.Bindable.{bound_by}
use Rattle.isle_blocks.proofs.nest.called.Given as goal

abbrev pub invariant-loop-call : goal.invariant-loop-call
invariant-loop-call l = bound_by l.set (drop l.call-index l.calls) ≡ bound_by [] l.calls
