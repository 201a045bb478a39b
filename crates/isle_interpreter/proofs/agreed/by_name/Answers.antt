use Rattle.isle_interpreter.proofs.MapsNames.{note_step}
use Rattle.isle_interpreter.proofs.agreed.by_name.Goals as goal

pub loop-place-preserved : goal.loop-place-preserved
loop-place-preserved c =
    note_step c.args.places.now c.loop-place.place-index c.place-item.result c.place-item.result c.loop-place.found c.note_place.new.types c.loop-place-test.true c.place-item.is c.in_ok-note_place.ensures c.loop-place.invariant
