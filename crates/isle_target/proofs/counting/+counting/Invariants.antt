use Rattle.std.proofs.Common.{◌≡◌, ◌+◌, ◌<◌, ◌^◌, drop}
use Rattle.isle_tree.specs.Views.{stmt, body, arms}
use Rattle.isle_target.specs.TreeCounts.{stmt_tests, body_tests, arms_tests, saturated}
use Rattle.isle_target.proofs.counting.+counting.Given as goal

abbrev pub invariant-count_statement-loop-arm : goal.invariant-count_statement-loop-arm
invariant-count_statement-loop-arm l = record {
  fits : l.counted < 2 ^ 64;
  left : saturated (l.counted + arms_tests (arms (drop l.arm-index l.arm-items))) ≡ saturated (l.fn.count + stmt_tests (stmt l.fn.statement));
}

abbrev pub invariant-count_body-loop-statement : goal.invariant-count_body-loop-statement
invariant-count_body-loop-statement l = record {
  fits : l.counted < 2 ^ 64;
  left : saturated (l.counted + body_tests (body (drop l.statement-index l.statements))) ≡ saturated (l.fn.count + body_tests (body l.statements));
}
