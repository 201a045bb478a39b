use Rattle.std.proofs.Common.{◌≡◌, drop}
use Rattle.std.specs.List.{list_all}
use Rattle.isle_tree.specs.Views.{body, arms}
use Rattle.isle_tree.specs.Calls.{body_calls, arms_calls}
use Rattle.isle_interpreter.specs.Served.{has}
use Rattle.isle_interpreter.proofs.within.+within.Given as goal

abbrev pub invariant-is_within-loop-arm : goal.invariant-is_within-loop-arm
invariant-is_within-loop-arm l = list_all (has l.served) (arms_calls (arms (drop l.arm-index l.arm-items))) ≡ list_all (has l.served) (arms_calls (arms l.arm-items))

abbrev pub invariant-are_within-loop-statement : goal.invariant-are_within-loop-statement
invariant-are_within-loop-statement l = list_all (has l.served) (body_calls (body (drop l.statement-index l.statements))) ≡ list_all (has l.served) (body_calls (body l.statements))
