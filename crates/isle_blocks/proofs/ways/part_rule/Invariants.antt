use Rattle.std.proofs.Common.{◌≡◌, List, map, take}
use Rattle.isle_core.specs.Path.{Path}
use Rattle.isle_blocks.specs.Free.{is_free}
use Rattle.isle_blocks.specs.Ways.{early_tests, late_tests}
use Rattle.isle_blocks.proofs.ways.part_rule.Given as goal

abbrev pub invariant-loop-constraint : goal.invariant-loop-constraint
invariant-loop-constraint l = record {
  early : (ps : List Path) → l.free ≡ map is_free ps → l.early.items ≡ early_tests l.several ps (take l.constraint-index l.constraints);
  late : (ps : List Path) → l.free ≡ map is_free ps → l.late.items ≡ late_tests l.several ps (take l.constraint-index l.constraints);
}
