use Rattle.std.proofs.Common.{drop}
use Rattle.isle_emission.specs.Emitter.{setting_in}
use Rattle.isle_simulation.specs.Completed.{completed_binds}
use Rattle.isle_emission.proofs.PushedLets.{IsLeft}
use Rattle.isle_emission.proofs.emitter.Emitter.push_binds.Given as goal

abbrev pub invariant-loop-binding : goal.invariant-loop-binding
invariant-loop-binding l =
    let s = setting_in l.self in
    IsLeft s (completed_binds s l.fn.bound l.bindings) (completed_binds s l.bound (drop l.binding-index l.bindings)) l.fn.bound l.bound l.fn.out.items l.out.items
