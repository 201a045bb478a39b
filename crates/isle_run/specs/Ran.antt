-- What a run under answers gives.
use Rattle.std.specs.Prelude.{◌≡◌, ℕ, List, Some, false}
use Rattle.isle_core.specs.Value.{Ran}
use Rattle.isle_answers.specs.Form.{Form}
use Rattle.isle_answers.specs.Spelling.{SpellsForms}
use Rattle.isle_run_inputs.specs.AnswersAt.{answers_at}
use Rattle.isle_run_inputs.specs.Held.{held_at}
use Rattle.isle_tree.specs.Run.{run}
use Rattle.isle_interpreter.specs.Judged.{Runs}
use Rattle.isle_run.specs.Attempt.{Attempt}
use Rattle.isle_run.specs.LeftOut.{leave_out}

-- the outcome is that of the run under the answers of these forms, which fit the function of the term and leave no constant of it out
pub record IsUnder (a : Attempt) (forms : List Form) (r : Ran) : Type 0 where
  pub fits : Runs a.program a.term a.args (answers_at a.env forms)
  pub given : leave_out a (answers_at a.env forms) ≡ false
  pub runs : run a.program a.term a.args (answers_at a.env forms) (held_at forms) ≡ Some r

-- the outcome is that of the run under the answers of the one list of forms that the text spells
pub record IsOutcome (a : Attempt) (text : List ℕ) (r : Ran) : Type 0 where
  pub forms : List Form
  pub spelt : SpellsForms text forms
  pub once : (others : List Form) → SpellsForms text others → others ≡ forms
  pub under : IsUnder a forms r
