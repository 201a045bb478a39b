use Rattle.std.proofs.Common.{◌≡◌, ◌-◌}
use Rattle.isle_reading.specs.Combinators.{all}
use Rattle.isle_reading.specs.Reader.{run}
use Rattle.isle_reading.specs.Views.{left}
use Rattle.isle_reading.proofs.ListSteps.{in_front}
use Rattle.isle_tables.specs.Reading.{read_item, read_items}
use Rattle.isle_tables.proofs.reading.items.Given as goal

-- with what was read in front, the rest reads as all
abbrev pub invariant-loop : goal.invariant-loop
invariant-loop l = in_front l.items.items (run (all (l.most - l.counter) (read_item l.most)) (left l.tokens)) ≡ run (read_items l.most) (left l.fn.tokens)
