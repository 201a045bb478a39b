use Rattle.std.proofs.Common.{◌≡◌, map, take}
use Rattle.isle_blocks.specs.Arranged.{arranged_way}
use Rattle.isle_blocks.specs.Ways.{way}
use Rattle.isle_blocks.proofs.arrangement.ways_in.Given as goal

abbrev pub invariant-loop-one : goal.invariant-loop-one
invariant-loop-one l = map way l.ways.items ≡ map arranged_way (take l.one-index l.all)
