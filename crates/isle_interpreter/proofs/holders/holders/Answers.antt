use Rattle.std.proofs.Common.{map}
use Rattle.std.specs.Prelude.{option_map}
use Rattle.isle_places.specs.ToldViews.{placed}
use Rattle.isle_tree.specs.Views.{program}
use Rattle.isle_interpreter.specs.Clashes.{held, held_at, all_held}
use Rattle.isle_interpreter.proofs.HeldSteps.{given_step}
use Rattle.isle_interpreter.proofs.holders.holders.Goals as goal

pub loop-place-preserved : goal.loop-place-preserved
loop-place-preserved c m same =
    given_step (held_at (program c.args.constants.now) m) (λ x. (x.0.now, x.1.now)) c.args.places.now c.loop-place.place-index c.place-item.result c.place-item.result (option_map held c.in_ok-one.one) (map held c.loop-place.found.items) (map held c.push_some.new.found.items)
    (all_held (program c.args.constants.now) m (placed c.args.places.now)) c.loop-place-test.true c.place-item.is (c.in_ok-one.ensures m same) c.in_ok-push_some.ensures (c.loop-place.invariant m same)
