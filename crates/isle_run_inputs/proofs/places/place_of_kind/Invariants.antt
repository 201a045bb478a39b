use Rattle.std.proofs.Common.{◌≡◌, ◌++◌, ℕ, List}
use Rattle.isle_answers.specs.Form.{Form}
use Rattle.isle_answers.specs.Views.{forms_seen}
use Rattle.isle_run_inputs.specs.Places.{of_kind, place_in}
use Rattle.isle_run_inputs.proofs.KindPlaces.{left_place}
use Rattle.isle_run_inputs.proofs.places.place_of_kind.Given as goal

abbrev pub invariant-loop-form : goal.invariant-loop-form
invariant-loop-form l = (end : ℕ) (more : List Form) → left_place l.kind l.forms l.form-index end more l.left ≡ place_in end (of_kind l.kind (forms_seen l.forms) ++ more) l.number
