use Rattle.std.proofs.Common.{◌≡◌, ◌-◌}
use Rattle.isle_reading.specs.Reader.{run}
use Rattle.isle_reading.specs.Combinators.{many}
use Rattle.isle_reading.specs.Views.{left}
use Rattle.isle_reading.proofs.ListSteps.{in_front}
use Rattle.isle_tables.specs.Reading.{read_field}
use Rattle.isle_tables.proofs.operations.fields.Given as goal

-- with what was read in front, the rest reads as all
abbrev pub invariant-loop : goal.invariant-loop
invariant-loop l = in_front l.fields.items (run (many (l.most - l.counter) read_field) (left l.tokens)) ≡ run (many l.most read_field) (left l.fn.tokens)
