use Rattle.std.proofs.Common.{◌≡◌, ◌-◌, length, drop}
use Rattle.isle_reading.specs.Views.{left}
use Rattle.isle_reading.proofs.cursor.Tokens.at_left.Given as goal

abbrev pub invariant-loop-met : goal.invariant-loop-met
invariant-loop-met l = drop (length (left l.met) - l.count) (left l.met) ≡ drop (length (left l.self) - l.count) (left l.self)

abbrev pub decreases-loop-met : goal.decreases-loop-met
decreases-loop-met l = length (left l.met)
