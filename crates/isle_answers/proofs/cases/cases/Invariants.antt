use Rattle.std.proofs.Common.{◌≡◌, ◌-◌, [], map}
use Rattle.isle_reading.specs.Reader.{run}
use Rattle.isle_reading.specs.Views.{left}
use Rattle.isle_answers.specs.Reading.{read_cases}
use Rattle.isle_answers.specs.Views.{case_seen}
use Rattle.isle_answers.proofs.cases.cases.Given as goal

-- after what was read, the rest reads as all
abbrev pub invariant-loop : goal.invariant-loop
invariant-loop l = run (read_cases l.most l.depth (l.most - l.counter) (map case_seen l.cases.items)) (left l.tokens) ≡ run (read_cases l.most l.depth l.most []) (left l.fn.tokens)
