use Rattle.std.proofs.Common.{◌≡◌, ◌≤◌, ◌-◌, length}
use Rattle.isle_reading.specs.Reader.{run}
use Rattle.isle_reading.specs.Combinators.{all}
use Rattle.isle_reading.specs.Views.{left}
use Rattle.isle_reading.proofs.ListSteps.{in_front}
use Rattle.isle_ast.specs.Views.{defs}
use Rattle.isle_grammar.specs.Reading.{read_def}
use Rattle.isle_syntax.proofs.definition.file_of.Given as goal

-- with what was read in front, the rest reads as all; and no more tokens are left than may be
abbrev pub invariant-loop : goal.invariant-loop
invariant-loop l =
    (in_front (defs l.definitions.items) (run (all (l.most - l.counter) (read_def l.most l.file)) (left l.tokens)) ≡ run (all l.most (read_def l.most l.file)) (left l.fn.tokens)) × (length (left l.tokens) ≤ l.most)
