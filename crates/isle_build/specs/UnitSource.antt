-- The source of a unit: the files that are written for it, and after them those that are generated.
use Rattle.std.specs.Prelude.{◌≡◌, ℕ, List, [], ◌++◌, length, Option, Some, IfSome, codes}
use Rattle.std.specs.Option.{option_map_or}
use Rattle.isle_codegen.specs.Causes.{printed}
use Rattle.isle_core.specs.Inputs.{AreRead}
use Rattle.isle_core.specs.declared.files.Files.{Files as FileTexts}
use Rattle.isle_core.specs.declared.options.CodegenOptions.{CodegenOptions}
use Rattle.isle_meta.specs.declared.tables.Tables.{Tables}
use Rattle.isle_outside.specs.Directory.{Contents}
use Rattle.isle_table_check.specs.SupportedTables.{AreSupported}
use Rattle.isle_units.specs.Lookup.{first_named}
use Rattle.isle_units.specs.Units.{inputs_of, isle_units}
use Rattle.isle_units.specs.declared.compilation.IsleCompilation.{IsleCompilation}
use Rattle.isle_build.specs.GeneratedFiles.{generated_texts}

-- the unit of this name: what is written for it lies where the program runs, and what is generated in `gen`
abbrev pub unit_named : (name : List ℕ) → Option IsleCompilation
unit_named name = first_named name (isle_units [] (codes "gen"))

-- the files that are read for it; without such a unit there are none
abbrev pub tracked_of : (name : List ℕ) → List (List ℕ)
tracked_of name = option_map_or (λ (u : IsleCompilation). u.tracked_inputs) (unit_named name) []

-- the texts of a unit: what the directory tells of its tracked files, and then the generated ones, which are never looked for
pub record AreUnitTexts (t : Tables) (u : IsleCompilation) (files : Option Contents) (texts : List (List ℕ)) : Type 0 where
  pub read : List (List ℕ)
  pub count : length read ≡ length u.tracked_inputs
  pub found : IfSome files (λ fs. AreRead fs u.tracked_inputs read)
  pub all : texts ≡ read ++ generated_texts t u.untracked_inputs

-- a source is that of a unit over supported tables: it has the names of all inputs as printed, and their texts
pub record IsUnitSource (t : Tables) (options : CodegenOptions) (u : IsleCompilation) (files : Option Contents) (source : FileTexts) : Type 0 where
  pub supported : AreSupported t
  pub named : source.file_names ≡ printed options (inputs_of u)
  pub texts : AreUnitTexts t u files source.file_texts

-- a source is that of the unit of this name
pub record IsSourceOfUnit (t : Tables) (options : CodegenOptions) (name : List ℕ) (files : Option Contents) (source : FileTexts) : Type 0 where
  pub unit : IsleCompilation
  pub listed : unit_named name ≡ Some unit
  pub is_source : IsUnitSource t options unit files source
