use Rattle.std.proofs.Common.{◌≡◌}
use Rattle.isle_emission.specs.Emitter.{setting_in}
use Rattle.isle_simulation.specs.Statements.{reads}
use Rattle.isle_emission.proofs.ReadSteps.{ReadsFrom}
use Rattle.isle_emission.proofs.emitter.Emitter.reads.Given as goal

abbrev pub invariant-loop-index : goal.invariant-loop-index
invariant-loop-index l = ReadsFrom (setting_in l.self) l.bound l.tys l.bindings l.index l.reads.items ≡ reads (setting_in l.self) l.bound l.tys l.bindings
