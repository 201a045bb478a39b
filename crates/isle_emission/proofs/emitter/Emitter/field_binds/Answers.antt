use Rattle.std.proofs.Common.{refl, ◌∙◌, arith}
use Rattle.isle_emission.specs.Emitter.{setting_in, fields_in}
use Rattle.isle_emission.proofs.FieldSteps.{places_within, binds_step}
use Rattle.isle_emission.proofs.emitter.Emitter.field_binds.Goals as goal

pub push_bind-requires : goal.push_bind-requires
push_bind-requires c =
    let within = places_within (setting_in c.args.self.now).env (fields_in c.args.self.now c.args.fields.now) c.args.places.now c.requires in
    omega (arith, within, c.loop-index-test.true)

pub loop-index-preserved : goal.loop-index-preserved
loop-index-preserved c =
    binds_step (setting_in c.args.self.now).env (fields_in c.args.self.now c.args.fields.now) c.args.places.now c.loop-index.index _ _ c.loop-index.binds.items c.push_bind.new.binds.items
    c.loop-index-test.true refl c.in_ok-push_bind.ensures
    ∙ c.loop-index.invariant
