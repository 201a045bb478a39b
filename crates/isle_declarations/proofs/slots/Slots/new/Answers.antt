use Rattle.isle_declarations.proofs.SlotLaws.{nothing_placed}
use Rattle.isle_declarations.proofs.slots.Slots.new.Goals as goal

pub returns : goal.returns
returns c = nothing_placed c.new.result.items c.new-2.result c.new-2.ensures.empty
