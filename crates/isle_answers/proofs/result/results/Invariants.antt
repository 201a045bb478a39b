use Rattle.std.proofs.Common.{◌≡◌, ◌-◌, map}
use Rattle.isle_reading.specs.Reader.{run}
use Rattle.isle_reading.specs.Combinators.{many}
use Rattle.isle_reading.specs.Views.{left}
use Rattle.isle_reading.proofs.ListSteps.{in_front}
use Rattle.isle_answers.specs.Reading.{read_result}
use Rattle.isle_answers.specs.Views.{result_seen}
use Rattle.isle_answers.proofs.result.results.Given as goal

-- with what was read in front, the rest reads as all
abbrev pub invariant-loop : goal.invariant-loop
invariant-loop l =
    in_front (map result_seen l.results.items) (run (many (l.most - l.counter) (read_result l.most l.depth)) (left l.tokens)) ≡ run (many l.most (read_result l.most l.depth)) (left l.fn.tokens)
