-- What is known after the first words of a line, as a pure tree.
use Rattle.std.specs.Prelude.{ℕ, List}
use Rattle.isle_core.specs.declared.options.CodegenOptions.{CodegenOptions}
use Rattle.isle_values.specs.Written.{Writtens}
use Rattle.isle_command_line.specs.Request.{Request}
use Rattle.isle_command_line.specs.declared.state.GivenOptions.{GivenOptions}
use Rattle.isle_command_line.specs.declared.state.RunHead.{RunHead}
use Rattle.isle_command_line.specs.declared.state.Verb.{Verb}

-- what a line says of a run up to its values: its head, the term, and the values
pub record RunParts : Type 0 where
  pub head : RunHead
  pub term : List ℕ
  pub values : Writtens

pub data Known : Type 0 where
  Begin : Known
  Whole : Request → Known
  Options : Verb → GivenOptions → Known
  Threshold : Verb → GivenOptions → Known
  MaxReturns : Verb → GivenOptions → Known
  Prefix : Verb → GivenOptions → Known
  Names : CodegenOptions → List (List ℕ) → Known
  Kind : Known
  Target : Known
  Size : Known
  Run : Known
  Term : RunHead → Known
  Values : RunHead → (term : List ℕ) → Known
  AfterValues : RunParts → Known
  Answers : RunParts → Known
