-- When a term of a source may be run under the answers of a text, by the source alone.
use Rattle.std.specs.Prelude.{◌≡◌, ℕ, List, [], Some, slice_get}
use Rattle.std.specs.List.{AllByRecursion}
use Rattle.isle_core.specs.declared.TermId.{TermId}
use Rattle.isle_core.specs.declared.files.Files.{Files}
use Rattle.isle_core.specs.declared.types.Term.{Term}
use Rattle.isle_core.specs.HasType.{HaveTypes}
use Rattle.isle_core.specs.Rule.{Environment}
use Rattle.isle_core.specs.Value.{Value}
use Rattle.isle_answers.specs.Form.{Form}
use Rattle.isle_answers.specs.Spelling.{SpellsForms}
use Rattle.isle_values.specs.Written.{Writtens}
use Rattle.isle_run_inputs.specs.AnswersAt.{constants_at, cases_at, turns_at, answers_at}
use Rattle.isle_run_inputs.specs.Requested.{requested_term}
use Rattle.isle_codegen.specs.Checked.{IsChecked}
use Rattle.isle_run.specs.RuleWants.{AreWantedBy, IsUsedFor}
use Rattle.isle_run.specs.Trial.{args_given}
use Rattle.isle_run.specs.Valid.{AreRightConstants, AllCasesRight, AllRight}

-- the source was checked, the term has rules, the values are of its types, and the text spells forms that are right and that its rules
-- want; each constant with a value is one that a rule tests for which is tried, or stands in what a rule gives which is reached
pub record IsValidBySource (files : Files) (term : List ℕ) (ws : Writtens) (text : List ℕ) : Type 0 where
  pub env : Environment
  pub checked : IsChecked files env
  pub id : TermId
  pub requested : requested_term env term ≡ Some id
  pub declared : Term
  pub found : slice_get env.terms id.0 ≡ Some declared
  pub typed : HaveTypes env (args_given env term ws) declared.arg_tys
  pub forms : List Form
  pub spelt : SpellsForms text forms
  pub constants : AreRightConstants env [] (constants_at env forms)
  pub wanted : AreWantedBy env id (answers_at env forms)
  pub used : AllByRecursion (λ (c : List ℕ × Value). IsUsedFor env c.0) (constants_at env forms)
  pub extracted : AllCasesRight env [] (cases_at env forms)
  pub right : AllRight env (cases_at env forms) [] (turns_at env forms)
