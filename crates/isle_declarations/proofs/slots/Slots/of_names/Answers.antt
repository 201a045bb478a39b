use Rattle.std.proofs.Common.{rules, subst}
use Rattle.std.proofs.lemmas.List.{take_all}
use Rattle.isle_declarations.specs.LookedUp.{texts}
use Rattle.isle_declarations.specs.Slots.{Places}
use Rattle.isle_declarations.proofs.SlotLaws.{nothing_placed}
use Rattle.isle_declarations.proofs.DistinctTables.{placed_next}
use Rattle.isle_declarations.proofs.slots.Slots.of_names.Goals as goal

pub loop-place-init : goal.loop-place-init
loop-place-init c = nothing_placed c.in_ok-vec.field-0.items c.new.result c.new.ensures.empty

pub loop-place-preserved : goal.loop-place-preserved
loop-place-preserved c =
    placed_next c.args.names.now c.loop-place.place _ c.loop-place.slots.places.items c.add.new.self.places.items c.loop-place.slots.overflow c.add.new.self.overflow
    c.requires (search rules) c.in_ok-add.ensures.added c.loop-place.invariant

pub returns : goal.returns
returns c =
    subst (λ ns. Places (texts ns) c.loop-place.slots.places.items c.loop-place.slots.overflow)
    (take_all c.loop-place.place c.args.names.now (search rules)) c.loop-place.invariant
