use Rattle.isle_emission.specs.Emitter.{setting_in, fields_in}
use Rattle.isle_emission.proofs.FieldSteps.{bind_none, bind_some}
use Rattle.isle_emission.proofs.emitter.Emitter.push_bind.Goals as goal

pub returns-in_default : goal.returns-in_default
returns-in_default c = λ places.
    bind_none (setting_in c.args.self.now).env (fields_in c.args.self.now c.args.fields.now) c.args.index c.args.place c.args.binds.now.items places c.requires c.in_default.is

pub returns : goal.returns
returns c = λ places.
    bind_some (setting_in c.args.self.now).env (fields_in c.args.self.now c.args.fields.now) c.args.index c.args.place c.in-Some.local _ c.args.binds.now.items c.push.new.self.items places
    c.in-Some.is c.in_ok-field_bind.ensures c.in_ok-push.ensures.items
