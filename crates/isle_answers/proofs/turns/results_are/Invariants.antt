use Rattle.std.proofs.Common.{◌≡◌, map}
use Rattle.isle_values.specs.Views.{seen}
use Rattle.isle_answers.specs.Reading.{results_are}
use Rattle.isle_answers.specs.Views.{result_seen}
use Rattle.isle_answers.proofs.ResultsAre.{results_front}
use Rattle.isle_answers.proofs.turns.results_are.Given as goal

-- with those that were found in front, what is left says as all
abbrev pub invariant-loop-value : goal.invariant-loop-value
invariant-loop-value l = results_front (map result_seen l.results.items) (results_are (seen l.value-iterator.rest.items)) ≡ results_are (seen l.fn.parts)
