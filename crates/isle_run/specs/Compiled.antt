-- What contracts see of a source that was checked and compiled.
use Rattle.std.specs.Prelude.{ℕ, List}
use Rattle.isle_core.specs.declared.files.Files.{Files}
use Rattle.isle_core.specs.declared.options.CodegenOptions.{CodegenOptions}
use Rattle.isle_core.specs.declared.values.Value.{Value as CodeValue}
use Rattle.isle_core.specs.Rule.{Environment}
use Rattle.isle_core.specs.RuleViews.{environment}
use Rattle.isle_core.specs.ValueViews.{values}
use Rattle.isle_tree.specs.Program.{Program}
use Rattle.isle_tree.specs.Views.{program}
use Rattle.isle_codegen.specs.Checked.{IsChecked}
use Rattle.isle_codegen.specs.declared.checked.Checked.{Checked}
use Rattle.isle_run.specs.Attempt.{Attempt}
use Rattle.isle_run.specs.Conforming.{Conforms}
use Rattle.isle_run.specs.declared.outcome.Compiled.{Compiled}

-- the environment of a source that was checked
abbrev pub env_checked : Checked → Environment
env_checked c = environment c.typeenv c.termenv

-- the environment and the program of one that was compiled
abbrev pub env_of : Compiled → Environment
env_of c = environment c.typeenv.now c.termenv.now

abbrev pub program_of : Compiled → Program
program_of c = program c.program.now

-- the run of the function of a term of it
abbrev pub attempt : Compiled → List ℕ → List CodeValue → Attempt
attempt c term args = record { program = program_of c; env = env_of c; term = term; args = values args }

-- so for each source with the environment, to which the program conforms
abbrev pub OfSource : Environment → Program → (CodegenOptions → Files → Type 0) → Type 0
OfSource env p P = (options : CodegenOptions) (files : Files) → IsChecked files env → Conforms options files env p → P options files
