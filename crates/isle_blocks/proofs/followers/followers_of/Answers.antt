use Rattle.std.proofs.Common.{rules, sym, ◌∙◌}
use Rattle.isle_blocks.proofs.FollowerLaws.{no_follower_more, follower_more}
use Rattle.isle_blocks.proofs.followers.followers_of.Goals.{in-Some+in_ok-insert, in_default}
use Rattle.isle_blocks.proofs.followers.followers_of.Goals as goal

pub loop-place-preserved : goal.loop-place-preserved
loop-place-preserved c = elim c.match-source_at.branch [
  | in-Some+in_ok-insert w ↦
      rw (w.followers-is)
      (follower_more c.args.following c.args.bindings.now c.loop-place.place c.index-bindings-place.result w.in-Some.source c.loop-place.followers w.insert.new.self c.loop-place-test.true c.index-bindings-place.is
      (sym c.source_at.ensures ∙ w.in-Some.is) c.loop-place.invariant (search rules))
  | in_default w ↦
      rw (w.followers-is)
      (no_follower_more c.args.following c.args.bindings.now c.loop-place.place c.index-bindings-place.result _ c.loop-place-test.true c.index-bindings-place.is (sym c.source_at.ensures ∙ w.in_default.is) c.loop-place.invariant)
]
