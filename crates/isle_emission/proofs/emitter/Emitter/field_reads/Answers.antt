use Rattle.std.proofs.Common.{refl, ◌∙◌}
use Rattle.isle_emission.specs.Emitter.{setting_in, fields_in}
use Rattle.isle_emission.proofs.FieldSteps.{field_there, part_there, reads_step, reads_all}
use Rattle.isle_emission.proofs.emitter.Emitter.field_reads.Goals as goal

pub field_read-requires-clause-field : goal.field_read-requires-clause-field
field_read-requires-clause-field c =
    let s = setting_in c.args.self.now in
    field_there s c.args.bound.now (fields_in c.args.self.now c.args.fields.now) c.args.parts.now c.loop-index.index c.loop-index-test.true c.requires

pub field_read-requires-clause-part : goal.field_read-requires-clause-part
field_read-requires-clause-part c =
    let s = setting_in c.args.self.now in
    part_there s c.args.bound.now (fields_in c.args.self.now c.args.fields.now) c.args.parts.now c.loop-index.index _ _ c.loop-index-test.true refl c.requires

pub loop-index-preserved : goal.loop-index-preserved
loop-index-preserved c =
    let s = setting_in c.args.self.now in
    reads_step s c.args.bound.now (fields_in c.args.self.now c.args.fields.now) c.args.parts.now c.loop-index.index _ _ c.loop-index.reads.items c.push.new.self.items _
    c.loop-index-test.true refl c.in_ok-field_read.ensures c.in_ok-push.ensures.items
    ∙ c.loop-index.invariant

pub returns : goal.returns
returns c =
    let s = setting_in c.args.self.now in
    reads_all s c.args.bound.now (fields_in c.args.self.now c.args.fields.now) c.args.parts.now c.loop-index.index c.loop-index.reads.items c.loop-index-test.false c.requires c.loop-index.invariant
