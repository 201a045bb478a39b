use Rattle.std.proofs.Common.{◌≡◌, drop}
use Rattle.isle_answers.specs.Views.{forms_seen}
use Rattle.isle_run_inputs.specs.Held.{held_at}
use Rattle.isle_run_inputs.proofs.held.held_at.Given as goal

abbrev pub invariant-loop-form : goal.invariant-loop-form
invariant-loop-form l = held_at (forms_seen (drop l.form-index l.fn.forms)) ≡ held_at (forms_seen l.fn.forms)
