use Rattle.std.proofs.Common.{◌≡◌, drop}
use Rattle.isle_core.specs.HasType.{typed_fields}
use Rattle.isle_core.specs.Rule.{Environment}
use Rattle.isle_simulation.specs.Patterns.{leaves_out}
use Rattle.isle_emission.proofs.patterns.leaves_out.Given as goal

abbrev pub invariant-loop-index : goal.invariant-loop-index
invariant-loop-index l = (env : Environment) → leaves_out (drop l.index (typed_fields env l.fields)) (drop l.index l.places) ≡ leaves_out (typed_fields env l.fields) l.places
