use Rattle.std.proofs.Common.{◌≡◌, ◌≤◌, ◌-◌, length, map}
use Rattle.isle_reading.specs.Reader.{run}
use Rattle.isle_reading.specs.Views.{left}
use Rattle.isle_ast.specs.Views.{iflet}
use Rattle.isle_grammar.specs.Reading.{read_tail}
use Rattle.isle_expressions.proofs.TailSteps.{in_rule}
use Rattle.isle_expressions.proofs.iflet.tail.Given as goal

-- with what was read in front, the rest reads as all; and no more tokens are left than may be
abbrev pub invariant-loop : goal.invariant-loop
invariant-loop l = (in_rule (map iflet l.iflets.items) (run (read_tail l.most (l.most - l.counter)) (left l.tokens)) ≡ run (read_tail l.most l.most) (left l.fn.tokens)) × (length (left l.tokens) ≤ l.most)
