use Rattle.std.proofs.Common.{◌≡◌, drop}
use Rattle.isle_outcomes.specs.Fields.{fields}
use Rattle.isle_tree.specs.Run.{fit_fields}
use Rattle.isle_running.specs.Frames.{Follows}
use Rattle.isle_running.proofs.BoundFields.{LeftSo}
use Rattle.isle_running.proofs.fields.bind_fields.Given as goal

abbrev pub invariant-loop-bind : goal.invariant-loop-bind
invariant-loop-bind l =
    LeftSo (fit_fields l.binds (fields l.found)) (fit_fields (drop l.bind-index l.binds) (fields l.found)) l.fn.frame l.frame
    × (l.frame.calls ≡ l.fn.frame.calls)
    × (l.frame.given.items ≡ l.fn.frame.given.items)
    × Follows l.fn.frame l.frame
