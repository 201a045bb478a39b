use Rattle.std.proofs.Common.{◌≤◌, ◌-◌, length}
use Rattle.isle_checks.specs.Ranked.{IsPassed}
use Rattle.isle_checks.proofs.ranked.passed.Given as goal

abbrev pub decreases-loop-low : goal.decreases-loop-low
decreases-loop-low l = l.high - l.low

abbrev pub invariant-loop-low : goal.invariant-loop-low
invariant-loop-low l = (l.low ≤ l.high) × (l.high ≤ length l.tops) × IsPassed l.tops l.than.rule.now.prio l.low
