use Rattle.std.proofs.Common.{rules}
use Rattle.isle_checks.proofs.PlacedLaws.{placed_more, all_placed}
use Rattle.isle_checks.proofs.firsts.placed.Goals as goal

pub loop-place-preserved : goal.loop-place-preserved
loop-place-preserved c = placed_more c.args.rules.now c.loop-place.place c.loop-place.group.items c.push.new.self.items _ (search rules) (search rules) (search rules) c.in_ok-push.ensures.items c.loop-place.invariant

pub returns : goal.returns
returns c = all_placed c.args.rules.now c.loop-place.group.items c.loop-place.place (search rules) c.loop-place.invariant
