use Rattle.std.proofs.Common.{◌≡◌, ◌+◌, ◌<◌, ◌^◌, map, drop}
use Rattle.isle_tree.specs.Views.{function}
use Rattle.isle_target.specs.TreeCounts.{functions_tests, saturated}
use Rattle.isle_target.proofs.counting.tree_counts.Given as goal

abbrev pub invariant-loop-f : goal.invariant-loop-f
invariant-loop-f l = record {
  fits : l.tests < 2 ^ 64;
  left : saturated (l.tests + functions_tests (map function (drop l.f-index l.functions))) ≡ saturated (functions_tests (map function l.functions));
}
