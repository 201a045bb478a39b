use Rattle.isle_interpreter.specs.Clashes.{held}
use Rattle.isle_interpreter.proofs.KeyOwners.{note_step}
use Rattle.isle_interpreter.proofs.clashes.owners.Goals as goal

pub loop-holder-preserved : goal.loop-holder-preserved
loop-holder-preserved c =
    note_step held c.args.holders.now c.loop-holder.holder-index c.holder-item.result c.holder-item.result c.loop-holder.found c.note.new.found c.loop-holder-test.true c.holder-item.is c.in_ok-note.ensures c.loop-holder.invariant
