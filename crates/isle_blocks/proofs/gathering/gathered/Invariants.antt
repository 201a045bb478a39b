use Rattle.std.proofs.Common.{◌≡◌, [], map, drop}
use Rattle.std.specs.BTreeMap.{get}
use Rattle.isle_core.specs.declared.rule_sets.Constraint.{Constraint}
use Rattle.isle_blocks.specs.Gathered.{gather}
use Rattle.isle_blocks.specs.Ways.{constraint_cmp, place_of, way, group}
use Rattle.isle_blocks.proofs.gathering.gathered.Given as goal

abbrev pub invariant-loop-way : goal.invariant-loop-way
invariant-loop-way l = record {
  placed : (c : Constraint) → get constraint_cmp l.places c ≡ place_of c (map group l.groups.items);
  rest : gather (map group l.groups.items) (map way (drop l.way-index l.ways)) ≡ gather [] (map way l.ways);
}
