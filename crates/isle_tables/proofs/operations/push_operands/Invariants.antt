use Rattle.std.proofs.Common.{◌≡◌, ◌-◌}
use Rattle.std.specs.Prelude.{string_bytes}
use Rattle.isle_reading.specs.Reader.{run}
use Rattle.isle_reading.specs.Combinators.{words_from}
use Rattle.isle_reading.specs.Views.{left}
use Rattle.isle_tables.specs.Reading.{more_operands}
use Rattle.isle_tables.proofs.operations.push_operands.Given as goal

-- the rest reads as all
abbrev pub invariant-loop : goal.invariant-loop
invariant-loop l = run (words_from (2 - l.counter) more_operands (string_bytes l.text)) (left l.tokens) ≡ run (words_from 2 more_operands (string_bytes l.fn.text)) (left l.fn.tokens)
