-- What files are that pass the check.
use Rattle.std.specs.Prelude.{◌≡◌, List}
use Rattle.isle_core.specs.declared.files.Files.{Files}
use Rattle.isle_core.specs.Rule.{Environment}
use Rattle.isle_ast.specs.Tree.{Def}
use Rattle.isle_codegen.specs.Emission.{ArePlaced}
use Rattle.isle_codegen.specs.LawfulEnvironment.{IsLawfulEnvironment}
use Rattle.isle_codegen.specs.Source.{Source}

-- the environment is the lawful one of the one list of definitions that the files' texts spell, and its terms are declared in the files
pub record IsChecked (files : Files) (env : Environment) : Type 0 where
  pub defs : List Def
  pub source : Source 0 files.file_texts defs
  pub once : (others : List Def) → Source 0 files.file_texts others → others ≡ defs
  pub lawful : IsLawfulEnvironment files.file_names defs env
  pub places : ArePlaced files env
