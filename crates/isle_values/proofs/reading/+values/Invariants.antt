use Rattle.std.proofs.Common.{◌≡◌, ◌+◌, ◌*◌, ◌-◌, map}
use Rattle.isle_reading.specs.Reader.{run}
use Rattle.isle_reading.specs.Combinators.{many}
use Rattle.isle_reading.specs.Views.{left}
use Rattle.isle_reading.proofs.ListSteps.{in_front}
use Rattle.isle_values.specs.Reading.{read_value}
use Rattle.isle_values.specs.Views.{written}
use Rattle.isle_values.proofs.reading.+values.Given as goal

abbrev pub decreases-value : goal.decreases-value
decreases-value l = 2 * l.depth

abbrev pub decreases-parts : goal.decreases-parts
decreases-parts l = 2 * l.depth + 1

-- with what was read in front, the rest reads as all
abbrev pub invariant-parts-loop : goal.invariant-parts-loop
invariant-parts-loop l =
    in_front (map written l.values.items) (run (many (l.most - l.counter) (read_value l.most l.depth)) (left l.tokens)) ≡ run (many l.most (read_value l.most l.depth)) (left l.fn.tokens)
