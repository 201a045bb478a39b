use Rattle.std.proofs.Common.{sym, ap, ◌∙◌}
use Rattle.std.proofs.lemmas.List.{drop_all}
use Rattle.isle_core.specs.ArmPlaces.{bound_within}
use Rattle.isle_blocks.proofs.GrowsLaws.{bound_grows}
use Rattle.isle_blocks.proofs.nest.bind_places.Goals as goal

pub returns-clause-grows : goal.returns-clause-grows
returns-clause-grows c =
    bound_grows c.args.bound.now c.loop-place.bound c.args.places.now (sym (ap (bound_within c.loop-place.bound) (drop_all c.loop-place.place-index c.args.places.now c.loop-place-test.false)) ∙ c.loop-place.invariant)
