-- The places of forms, by the numbers that a run counts them with.
use Rattle.std.specs.Prelude.{ℕ, zero, suc, List, [], ◌∷◌, ◌++◌, Bool, true, false, filter, Result, Ok, Err}
use Rattle.isle_answers.specs.Form.{Form, Held, Const, Answers, Turns}
use Rattle.isle_run_inputs.specs.declared.places.Counted.{Counted}
use Rattle.isle_run_inputs.specs.declared.places.Counted.TheVariants as counted

-- where a form begins
abbrev pub place_of : Form → ℕ
place_of (Held count at) = at
place_of (Const name v at) = at
place_of (Answers callee cases rest at) = at
place_of (Turns callee turns rest at) = at

-- a form of the kind; what is held at entry is of none
abbrev pub is_of : Counted → Form → Bool
is_of counted.Constants (Const name v at) = true
is_of counted.Cases (Answers callee cases rest at) = true
is_of counted.Turns (Turns callee turns rest at) = true
is_of counted.Constants (Held count at) = false
is_of counted.Constants (Answers callee cases rest at) = false
is_of counted.Constants (Turns callee turns rest at) = false
is_of counted.Cases (Held count at) = false
is_of counted.Cases (Const name v at) = false
is_of counted.Cases (Turns callee turns rest at) = false
is_of counted.Turns (Held count at) = false
is_of counted.Turns (Const name v at) = false
is_of counted.Turns (Answers callee cases rest at) = false

-- those of the kind, in order
abbrev pub of_kind : Counted → List Form → List Form
of_kind kind forms = filter (is_of kind) forms

-- the forms as a run counts them: constants, then cases, then turns
abbrev pub as_counted : List Form → List Form
as_counted forms = of_kind counted.Constants forms ++ (of_kind counted.Cases forms ++ of_kind counted.Turns forms)

-- where the form of this number begins; if there is none, the end of the file
abbrev pub place_in : (end : ℕ) → List Form → ℕ → ℕ
place_in end [] i = end
place_in end (form ∷ forms) zero = place_of form
place_in end (form ∷ forms) (suc i) = place_in end forms i

-- the place that the number of a wrong form tells: where it begins, or the end of the file where one is missing
abbrev pub place_at : (end : ℕ) → List Form → ℕ → ℕ
place_at end forms i = place_in end (as_counted forms) i

-- the place that was found, or the one that the number which is left has among more forms
abbrev pub found_or : (end : ℕ) → List Form → Result ℕ ℕ → ℕ
found_or end more (Ok place) = place
found_or end more (Err left) = place_in end more left
