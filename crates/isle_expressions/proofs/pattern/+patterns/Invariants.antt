use Rattle.std.proofs.Common.{◌≡◌, ◌+◌, ◌*◌, ◌-◌, map}
use Rattle.isle_reading.specs.Reader.{run}
use Rattle.isle_reading.specs.Combinators.{many}
use Rattle.isle_reading.specs.Views.{left}
use Rattle.isle_reading.proofs.ListSteps.{in_front}
use Rattle.isle_ast.specs.Views.{pattern}
use Rattle.isle_grammar.specs.Reading.{read_pattern}
use Rattle.isle_expressions.proofs.pattern.+patterns.Given as goal

abbrev pub decreases-pattern : goal.decreases-pattern
decreases-pattern l = 5 * l.depth + 2

abbrev pub decreases-worded : goal.decreases-worded
decreases-worded l = 5 * l.depth + 1

abbrev pub decreases-symbol : goal.decreases-symbol
decreases-symbol l = 5 * l.depth

abbrev pub decreases-list : goal.decreases-list
decreases-list l = 5 * l.depth + 4

abbrev pub decreases-patterns : goal.decreases-patterns
decreases-patterns l = 5 * l.depth + 3

-- with what was read in front, the rest reads as all
abbrev pub invariant-patterns-loop : goal.invariant-patterns-loop
invariant-patterns-loop l =
    in_front (map pattern l.args.items) (run (many (l.most - l.counter) (read_pattern l.most l.depth)) (left l.tokens)) ≡ run (many l.most (read_pattern l.most l.depth)) (left l.fn.tokens)
