-- A run of a compiled term that is traced: the text of its program, and all calls of the run.
use Rattle.std.specs.Prelude.{◌≡◌, ℕ, List, ◌++◌, codes}
use Rattle.isle_answers.specs.Form.{Form}
use Rattle.isle_answers.specs.Spelling.{SpellsForms}
use Rattle.isle_codegen.specs.Checked.{IsChecked}
use Rattle.isle_codegen.specs.Header.{HasHeader}
use Rattle.isle_core.specs.Calling.{kind_of}
use Rattle.isle_core.specs.Having.{HasAnswers}
use Rattle.isle_core.specs.Lawful.{IsLawful}
use Rattle.isle_core.specs.Meaning.{Meaning}
use Rattle.isle_core.specs.Rule.{Environment}
use Rattle.isle_core.specs.Value.{Ran, Value}
use Rattle.isle_core.specs.declared.files.Files.{Files}
use Rattle.isle_core.specs.declared.options.CodegenOptions.{CodegenOptions}
use Rattle.isle_outcomes.specs.Lines.{run_lines}
use Rattle.isle_run.specs.Conforming.{Conforms}
use Rattle.isle_run.specs.RunOf.{IsRunOf}
use Rattle.isle_run.specs.Trial.{ArePrescribed, args_given, shown_run}
use Rattle.isle_run_inputs.specs.AnswersAt.{answers_at}
use Rattle.isle_run_inputs.specs.Held.{held_at}
use Rattle.isle_target.specs.Reading.{SpellsOnly}
use Rattle.isle_tree.specs.Program.{Program}
use Rattle.isle_values.specs.Written.{Writtens}

-- the text of a program, a line feed, and the lines of a run: its end, and every call in order, those of extractors and pure terms too
abbrev pub trace_text : (printed : List ℕ) → Ran → List ℕ
trace_text printed ran = printed ++ (codes "\n" ++ run_lines ran)

-- the text is that of a program, whose files have these names, and of the lines of a run
pub record IsTraceOf (names : List (List ℕ)) (p : Program) (ran : Ran) (text : List ℕ) : Type 0 where
  pub printed : List ℕ
  pub header : HasHeader names printed
  pub spells : SpellsOnly printed p
  pub shown : text ≡ trace_text printed ran

-- the text is the trace of a run of the term at these arguments, under answers, if the list of results has this length at entry: it holds the text of one
-- program, which conforms to the source, and the lines of the run of that program; and under every lawful meaning that has the answers the end and the calls
-- of impure terms are what the rules prescribe
pub record IsTrace (options : CodegenOptions) (files : Files) (env : Environment) (term : List ℕ) (args : List Value) (answers : Meaning) (held : ℕ) (text : List ℕ) : Type 0 where
  pub program : Program
  pub ran : Ran
  pub is_run : IsRunOf options files env term args answers held program ran
  pub traced : IsTraceOf files.file_names program ran text
  pub means : (m : Meaning) → IsLawful env is_run.id m → HasAnswers m answers
      → ArePrescribed options (kind_of is_run.declared.kind) env is_run.id is_run.declared args m held (run_lines (shown_run env ran))

-- the text is the trace of a run of the source's term at the values, under the answers of the forms that a text spells
pub record IsTracedTrial (options : CodegenOptions) (files : Files) (term : List ℕ) (ws : Writtens) (answers : List ℕ) (text : List ℕ) : Type 0 where
  pub env : Environment
  pub checked : IsChecked files env
  pub forms : List Form
  pub spelt : SpellsForms answers forms
  pub once : (others : List Form) → SpellsForms answers others → others ≡ forms
  pub is_trace : IsTrace options files env term (args_given env term ws) (answers_at env forms) (held_at forms) text

-- so for each source with these names of files and the environment, to which the program conforms
abbrev pub OfNamed : (names : List (List ℕ)) → Environment → Program → (CodegenOptions → Files → Type 0) → Type 0
OfNamed names env p P = (options : CodegenOptions) (files : Files) → files.file_names ≡ names → IsChecked files env → Conforms options files env p → P options files
