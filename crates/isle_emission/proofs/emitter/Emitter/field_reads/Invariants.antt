use Rattle.std.proofs.Common.{◌≡◌, drop}
use Rattle.isle_emission.specs.Emitter.{setting_in, fields_in}
use Rattle.isle_simulation.specs.Statements.{field_reads}
use Rattle.isle_emission.specs.MadeValues.{reads_onto}
use Rattle.isle_emission.proofs.emitter.Emitter.field_reads.Given as goal

abbrev pub invariant-loop-index : goal.invariant-loop-index
invariant-loop-index l =
    let fields = fields_in l.self l.fields in
    reads_onto l.reads.items (field_reads (setting_in l.self) l.bound (drop l.index fields) (drop l.index l.parts)) ≡ field_reads (setting_in l.self) l.bound fields l.parts
