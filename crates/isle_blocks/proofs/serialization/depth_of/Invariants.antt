use Rattle.std.proofs.Common.{map, take}
use Rattle.isle_blocks.specs.Gathered.{AreShort}
use Rattle.isle_blocks.specs.Ways.{way}
use Rattle.isle_blocks.proofs.serialization.depth_of.Given as goal

abbrev pub invariant-loop-way : goal.invariant-loop-way
invariant-loop-way l = AreShort l.depth (map way (take l.way-index l.ways))
