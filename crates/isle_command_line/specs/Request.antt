-- What a line asks for, as a pure tree.
use Rattle.std.specs.Prelude.{ℕ, List, Bool, Option}
use Rattle.isle_core.specs.declared.options.CodegenOptions.{CodegenOptions}
use Rattle.isle_settings.specs.declared.isa.Isa as targets
use Rattle.isle_values.specs.Written.{Writtens}
use Rattle.isle_command_line.specs.declared.commands.Kind.{Kind}
use Rattle.isle_command_line.specs.declared.commands.Source.{Source}

-- a run of a term: whether it is traced, with which options its source is compiled, at which values, and the file of answers, if any
pub record Running : Type 0 where
  pub trace : Bool
  pub options : CodegenOptions
  pub source : Source
  pub term : List ℕ
  pub values : Writtens
  pub answers : Option (List ℕ)

pub data Request : Type 0 where
  Help : Request
  Version : Request
  Compile : (options : CodegenOptions) (names : List (List ℕ)) → Request
  Build : (options : CodegenOptions) (unit : List ℕ) → Request
  Prelude : Kind → Request
  Units : Request
  Isa : (target : targets.Isa) → Request
  Sample : (size : ℕ) → Request
  Run : Running → Request
