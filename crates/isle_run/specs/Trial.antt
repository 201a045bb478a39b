-- The lines that a run of a compiled term gives.
use Rattle.std.specs.Prelude.{◌≡◌, ℕ, List, [], Option, IsSomeAnd, option_map}
use Rattle.isle_core.specs.Terms.{impure_calls}
use Rattle.isle_core.specs.declared.TermId.{TermId}
use Rattle.isle_core.specs.declared.options.CodegenOptions.{CodegenOptions}
use Rattle.isle_core.specs.declared.files.Files.{Files}
use Rattle.isle_core.specs.declared.types.ReturnKind.{ReturnKind}
use Rattle.isle_core.specs.declared.types.ReturnKind.TheVariants as return_kind
use Rattle.isle_core.specs.declared.types.Term.{Term}
use Rattle.isle_core.specs.Value.{Value, Ran}
use Rattle.isle_core.specs.Meaning.{Meaning}
use Rattle.isle_core.specs.Space.{space_of}
use Rattle.isle_core.specs.Cut.{cut_run}
use Rattle.isle_core.specs.Having.{HasAnswers}
use Rattle.isle_core.specs.Lawful.{IsLawful}
use Rattle.isle_core.specs.Outcome.{Prescription, Prescribed, kind_of}
use Rattle.isle_core.specs.Pairs.{PrescribesSeveral}
use Rattle.isle_core.specs.Parts.{Given}
use Rattle.isle_core.specs.Rule.{Environment, rules_of}
use Rattle.isle_values.specs.Written.{Writtens}
use Rattle.isle_answers.specs.Form.{Form}
use Rattle.isle_answers.specs.Spelling.{SpellsForms}
use Rattle.isle_run_inputs.specs.ValuesAt.{values_at}
use Rattle.isle_run_inputs.specs.Requested.{requested_types}
use Rattle.isle_run_inputs.specs.AnswersAt.{answers_at}
use Rattle.isle_run_inputs.specs.Held.{held_at}
use Rattle.isle_tree.specs.Program.{Program}
use Rattle.isle_outcomes.specs.Lines.{run_lines}
use Rattle.isle_simulation.specs.Ends.{end_of}
use Rattle.isle_simulation.specs.Emitted.{ran_with}
use Rattle.isle_codegen.specs.Checked.{IsChecked}
use Rattle.isle_run.specs.RunOf.{IsRunOf}

-- the arguments: the values as they are written, at the types of the term that has rules and this name
abbrev pub args_given : Environment → List ℕ → Writtens → List Value
args_given env term ws = values_at env (requested_types env term) ws

-- a run as it is shown: its end, and the calls of impure terms
abbrev pub shown_run : Environment → Ran → Ran
shown_run env r = record { end = r.end; calls = impure_calls env r.calls }

-- an outcome as it is shown
abbrev pub shown_outcome : ReturnKind → Prescription → Option Ran
shown_outcome kind o = option_map (ran_with o.calls) (end_of kind o.result)

-- the lines are those of the one outcome that the term's rules prescribe
pub record AreOutcome (env : Environment) (id : TermId) (t : Term) (args : List Value) (m : Meaning) (lines : List ℕ) : Type 0 where
  pub outcome : Prescription
  pub prescribed : Prescribed env m args (rules_of env id) (kind_of t.kind) [] outcome
  pub only : (other : Prescription) → Prescribed env m args (rules_of env id) (kind_of t.kind) [] other → other ≡ outcome
  pub shown : IsSomeAnd (shown_outcome (kind_of t.kind) outcome) (λ r. lines ≡ run_lines r)

-- the lines are those of results that the rules of a term prescribe which answers several times: of the first ones, as many as there is room for
-- and at least one, and of the calls made up to the last of them, or of all if the room isn't used up
pub record AreFirst (options : CodegenOptions) (env : Environment) (id : TermId) (args : List Value) (m : Meaning) (held : ℕ) (lines : List ℕ) : Type 0 where
  pub given : Given
  pub prescribed : PrescribesSeveral env m args (rules_of env id) given
  pub shown : lines ≡ run_lines (cut_run (space_of options held) given)

-- the lines are what the rules prescribe of a term that answers so often
abbrev pub ArePrescribed : CodegenOptions → ReturnKind → Environment → TermId → Term → List Value → Meaning → (held : ℕ) → List ℕ → Type 0
ArePrescribed options return_kind.Plain env id t args m held lines = AreOutcome env id t args m lines
ArePrescribed options return_kind.Option env id t args m held lines = AreOutcome env id t args m lines
ArePrescribed options return_kind.Iterator env id t args m held lines = AreFirst options env id args m held lines

-- the lines of a run of the term at these arguments, under answers, if the list of results has this length at entry: those of the run of a program; and
-- under every lawful meaning that has the answers what the rules prescribe
pub record AreLines (options : CodegenOptions) (files : Files) (env : Environment) (term : List ℕ) (args : List Value) (answers : Meaning) (held : ℕ) (lines : List ℕ) : Type 0 where
  pub program : Program
  pub ran : Ran
  pub is_run : IsRunOf options files env term args answers held program ran
  pub shown : lines ≡ run_lines (shown_run env ran)
  pub means : (m : Meaning) → IsLawful env is_run.id m → HasAnswers m answers
      → ArePrescribed options (kind_of is_run.declared.kind) env is_run.id is_run.declared args m held lines

-- the lines are those of a run of the source's term at the values, under the answers of the forms that a text spells
pub record IsTrial (options : CodegenOptions) (files : Files) (term : List ℕ) (ws : Writtens) (text : List ℕ) (lines : List ℕ) : Type 0 where
  pub env : Environment
  pub checked : IsChecked files env
  pub forms : List Form
  pub spelt : SpellsForms text forms
  pub once : (others : List Form) → SpellsForms text others → others ≡ forms
  pub are_lines : AreLines options files env term (args_given env term ws) (answers_at env forms) (held_at forms) lines
