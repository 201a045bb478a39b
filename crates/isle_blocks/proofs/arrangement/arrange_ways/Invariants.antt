use Rattle.std.proofs.Common.{map, take}
use Rattle.isle_blocks.specs.Arranged.{AreEachArranged, arranged_way}
use Rattle.isle_blocks.specs.Ways.{parted_way}
use Rattle.isle_blocks.proofs.arrangement.arrange_ways.Given as goal

abbrev pub invariant-loop-way : goal.invariant-loop-way
invariant-loop-way l = AreEachArranged l.turns (map parted_way (take l.way-index l.ways)) (map arranged_way l.all.items)
