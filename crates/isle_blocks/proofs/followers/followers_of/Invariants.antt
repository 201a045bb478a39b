use Rattle.std.proofs.Common.{take}
use Rattle.std.specs.Ordering.{nat_cmp}
use Rattle.std.specs.BTreeMap.{get}
use Rattle.isle_blocks.specs.Followers.{FindsFollowers}
use Rattle.isle_blocks.proofs.followers.followers_of.Given as goal

abbrev pub invariant-loop-place : goal.invariant-loop-place
invariant-loop-place l = FindsFollowers l.following (take l.place l.bindings) (get nat_cmp l.followers)
