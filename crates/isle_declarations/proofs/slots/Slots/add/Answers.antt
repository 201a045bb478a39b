use Rattle.std.proofs.Common.{rules, subst}
use Rattle.isle_declarations.specs.Slots.{IsFree}
use Rattle.isle_declarations.proofs.SlotLaws.{put_in_slot, put_beside, kept_beside}
use Rattle.isle_declarations.proofs.slots.Slots.add.Goals as goal

pub returns-in-Some-clause-added : goal.returns-in-Some-clause-added
returns-in-Some-clause-added c =
    put_in_slot c.args.self.now.places.items c.args.self.now.overflow c.args.name.now c.args.count c.in-Some.slot
    (subst (λ h. IsFree c.args.self.now.places.items h c.args.count c.in-Some.slot) c.requires (search rules))

pub returns-in-Ok-clause-added : goal.returns-in-Ok-clause-added
returns-in-Ok-clause-added c =
    put_beside c.args.self.now.places.items c.args.self.now.overflow c.insert.new.self c.args.name c.args.count c.in-Ok.ensures.updates

pub returns-in-Err-clause-kept : goal.returns-in-Err-clause-kept
returns-in-Err-clause-kept c =
    kept_beside c.args.self.now.places.items c.args.self.now.overflow c.insert.new.self c.in-Err.ensures.err
