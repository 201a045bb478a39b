use Rattle.std.proofs.Common.{◌≡◌, map, take}
use Rattle.isle_core.specs.Answered.{item_of}
use Rattle.isle_core.specs.ValueViews.{values}
use Rattle.isle_running.specs.RunViews.{item}
use Rattle.isle_running.proofs.calls.items_of.Given as goal

abbrev pub invariant-loop-results : goal.invariant-loop-results
invariant-loop-results l = map item l.items.items ≡ map item_of (map values (take l.results-index l.answers))
