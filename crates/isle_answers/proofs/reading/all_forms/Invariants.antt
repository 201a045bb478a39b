use Rattle.std.proofs.Common.{◌≡◌, ◌-◌}
use Rattle.isle_reading.specs.Combinators.{all_from}
use Rattle.isle_reading.specs.Nesting.{most_open}
use Rattle.isle_reading.specs.Reader.{run}
use Rattle.isle_reading.specs.Views.{left}
use Rattle.isle_reading.proofs.ListSteps.{in_front}
use Rattle.isle_answers.specs.Reading.{held_after, read_form, read_forms}
use Rattle.isle_answers.specs.Views.{forms_seen}
use Rattle.isle_answers.proofs.reading.all_forms.Given as goal

-- with what was read in front, the rest reads as all
abbrev pub invariant-loop : goal.invariant-loop
invariant-loop l = in_front (forms_seen l.forms.items) (run (all_from (l.most - l.counter) (read_form l.most (most_open - 1)) held_after l.held) (left l.tokens)) ≡ run (read_forms l.most) (left l.fn.tokens)
