use Rattle.std.proofs.Common.{◌≡◌, List, map, take}
use Rattle.isle_core.specs.Path.{Path}
use Rattle.isle_blocks.specs.Free.{is_free}
use Rattle.isle_blocks.specs.Ways.{parted_way, way_of}
use Rattle.isle_blocks.proofs.ways.part_rules.Given as goal

abbrev pub invariant-loop-rule : goal.invariant-loop-rule
invariant-loop-rule l = (ps : List Path) → l.free ≡ map is_free ps → map parted_way l.all.items ≡ map (way_of l.several ps) (take l.rule-index l.rules)
