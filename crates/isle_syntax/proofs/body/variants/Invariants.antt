use Rattle.std.proofs.Common.{◌≡◌, ◌-◌}
use Rattle.isle_reading.specs.Reader.{run}
use Rattle.isle_reading.specs.Combinators.{many}
use Rattle.isle_reading.specs.Views.{left}
use Rattle.isle_reading.proofs.ListSteps.{in_front}
use Rattle.isle_grammar.specs.Reading.{read_variant}
use Rattle.isle_syntax.proofs.body.variants.Given as goal

-- with what was read in front, the rest reads as all
abbrev pub invariant-loop : goal.invariant-loop
invariant-loop l = in_front l.variants.items (run (many (l.most - l.counter) (read_variant l.most)) (left l.tokens)) ≡ run (many l.most (read_variant l.most)) (left l.fn.tokens)
