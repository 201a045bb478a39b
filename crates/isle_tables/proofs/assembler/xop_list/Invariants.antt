use Rattle.std.proofs.Common.{◌≡◌, ◌-◌}
use Rattle.isle_reading.specs.Reader.{run}
use Rattle.isle_reading.specs.Combinators.{many}
use Rattle.isle_reading.specs.Views.{left}
use Rattle.isle_reading.proofs.ListSteps.{in_front}
use Rattle.isle_tables.specs.Reading.{read_xop}
use Rattle.isle_tables.proofs.assembler.xop_list.Given as goal

-- with what was read in front, the rest reads as all
abbrev pub invariant-loop : goal.invariant-loop
invariant-loop l = in_front l.xops.items (run (many (l.most - l.counter) read_xop) (left l.tokens)) ≡ run (many l.most read_xop) (left l.fn.tokens)
