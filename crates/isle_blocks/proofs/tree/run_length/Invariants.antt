use Rattle.std.proofs.Common.{◌≡◌, ◌+◌, map, drop}
use Rattle.isle_blocks.specs.TreeSteps.{run_length}
use Rattle.isle_blocks.specs.Ways.{way}
use Rattle.isle_blocks.proofs.tree.run_length.Given as goal

abbrev pub invariant-loop-way : goal.invariant-loop-way
invariant-loop-way l = record {
  counted : l.count ≡ l.way-index;
  rest : l.count + run_length l.source (map way (drop l.way-index l.ways)) ≡ run_length l.source (map way l.ways);
}
