use Rattle.std.proofs.Common.{◌≡◌, ◌-◌, map, []}
use Rattle.std.specs.Prelude.{reverse}
use Rattle.isle_reading.specs.Reader.{run}
use Rattle.isle_reading.specs.Views.{left}
use Rattle.isle_answers.specs.Reading.{read_turns}
use Rattle.isle_answers.specs.Views.{answer_seen}
use Rattle.isle_answers.proofs.turns.turns.Given as goal

-- after what was read, the rest reads as all
abbrev pub invariant-loop : goal.invariant-loop
invariant-loop l = run (read_turns l.most l.depth (l.most - l.counter) (reverse (map answer_seen l.turns.items))) (left l.tokens) ≡ run (read_turns l.most l.depth l.most []) (left l.fn.tokens)
