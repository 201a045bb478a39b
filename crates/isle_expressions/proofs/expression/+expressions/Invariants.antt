use Rattle.std.proofs.Common.{◌≡◌, ◌+◌, ◌*◌, ◌-◌, map}
use Rattle.isle_reading.specs.Reader.{run}
use Rattle.isle_reading.specs.Combinators.{many}
use Rattle.isle_reading.specs.Views.{left}
use Rattle.isle_reading.proofs.ListSteps.{in_front}
use Rattle.isle_ast.specs.Views.{expr}
use Rattle.isle_grammar.specs.Reading.{read_expr, read_binding}
use Rattle.isle_expressions.specs.ReadingViews.{binding_seen}
use Rattle.isle_expressions.proofs.expression.+expressions.Given as goal

abbrev pub decreases-expression : goal.decreases-expression
decreases-expression l = 4 * l.depth

abbrev pub decreases-list : goal.decreases-list
decreases-list l = 4 * l.depth + 2

abbrev pub decreases-arguments : goal.decreases-arguments
decreases-arguments l = 4 * l.depth + 1

abbrev pub decreases-let_in : goal.decreases-let_in
decreases-let_in l = 4 * l.depth + 1

abbrev pub decreases-bindings : goal.decreases-bindings
decreases-bindings l = 4 * l.depth

abbrev pub decreases-binding_list : goal.decreases-binding_list
decreases-binding_list l = 4 * l.depth + 1

abbrev pub decreases-binding : goal.decreases-binding
decreases-binding l = 4 * l.depth

-- with what was read in front, the rest reads as all
abbrev pub invariant-arguments-loop : goal.invariant-arguments-loop
invariant-arguments-loop l =
    in_front (map expr l.args.items) (run (many (l.most - l.counter) (read_expr l.most l.depth)) (left l.tokens)) ≡ run (many l.most (read_expr l.most l.depth)) (left l.fn.tokens)

-- with what was read in front, the rest reads as all
abbrev pub invariant-binding_list-loop : goal.invariant-binding_list-loop
invariant-binding_list-loop l =
    in_front (map binding_seen l.lets.items) (run (many (l.most - l.counter) (read_binding l.most l.depth)) (left l.tokens)) ≡ run (many l.most (read_binding l.most l.depth)) (left l.fn.tokens)
