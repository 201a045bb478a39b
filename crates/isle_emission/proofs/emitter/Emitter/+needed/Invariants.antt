use Rattle.std.proofs.Common.{◌+◌, ◌*◌, drop}
use Rattle.isle_emission.specs.Emitter.{setting_in}
use Rattle.isle_simulation.specs.Completed.{needed, each_needed}
use Rattle.isle_emission.proofs.PushedLets.{IsLeft}
use Rattle.isle_emission.proofs.emitter.Emitter.+needed.Given as goal

abbrev pub decreases-push_needed : goal.decreases-push_needed
decreases-push_needed l = 2 * l.depth

abbrev pub decreases-push_each : goal.decreases-push_each
decreases-push_each l = 2 * l.depth + 1

abbrev pub invariant-push_each-loop-binding : goal.invariant-push_each-loop-binding
invariant-push_each-loop-binding l =
    let s = setting_in l.self in
    let one = needed s l.depth in
    IsLeft s (each_needed one l.fn.bound l.bindings) (each_needed one l.bound (drop l.binding-index l.bindings)) l.fn.bound l.bound l.fn.out.items l.out.items
