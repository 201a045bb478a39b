use Rattle.std.proofs.Common.{[], refl}
use Rattle.isle_operand_names.proofs.SetNames.{among_more}
use Rattle.isle_operand_names.proofs.sets.set_of.Goals as goal

pub loop-name-preserved : goal.loop-name-preserved
loop-name-preserved c =
    among_more c.args.names.now c.loop-name.name-index _ (record { ref_ptr = (0, 0); now = [] }) c.loop-name.found c.insert.new.self c.loop-name-test.true refl c.in_ok-insert.ensures.updates c.loop-name.invariant
