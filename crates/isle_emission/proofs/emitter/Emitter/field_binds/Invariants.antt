use Rattle.std.proofs.Common.{◌≡◌, drop}
use Rattle.isle_emission.specs.Emitter.{setting_in, fields_in}
use Rattle.isle_simulation.specs.Patterns.{field_binds}
use Rattle.isle_emission.specs.Binds.{onto_binds}
use Rattle.isle_emission.proofs.emitter.Emitter.field_binds.Given as goal

abbrev pub invariant-loop-index : goal.invariant-loop-index
invariant-loop-index l =
    let env = (setting_in l.self).env in
    let fields = fields_in l.self l.fields in
    onto_binds l.binds.items (field_binds env (drop l.index fields) (drop l.index l.places)) ≡ field_binds env fields l.places
