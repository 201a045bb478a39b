use Rattle.std.proofs.Common.{◌+◌, ◌*◌}
use Rattle.isle_reading.specs.Views.{left}
use Rattle.isle_syntax.proofs.PassedSteps.{AreSkipped}
use Rattle.isle_syntax.proofs.passed.+passed.Given as goal

abbrev pub decreases-skip_any : goal.decreases-skip_any
decreases-skip_any l = 2 * l.depth

abbrev pub decreases-skip_anys : goal.decreases-skip_anys
decreases-skip_anys l = 2 * l.depth + 1

abbrev pub invariant-skip_anys-loop : goal.invariant-skip_anys-loop
invariant-skip_anys-loop l = AreSkipped l.most l.depth l.counter (left l.tokens) (left l.fn.tokens)
