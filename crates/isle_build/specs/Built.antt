-- What building a unit answers, and why.
use Rattle.std.specs.Prelude.{◌≡◌, ℕ, List, Option, Some, None}
use Rattle.isle_codegen.specs.Causes.{AllTried, CompilesTo, printed}
use Rattle.isle_codegen.specs.Errors.{IsErrors, IsNameError}
use Rattle.isle_codegen.specs.Header.{HasHeader}
use Rattle.isle_core.specs.Inputs.{Fails}
use Rattle.isle_core.specs.declared.errors.Errors.{Errors}
use Rattle.isle_core.specs.declared.files.Files.{Files as FileTexts}
use Rattle.isle_core.specs.declared.options.CodegenOptions.{CodegenOptions}
use Rattle.isle_core.specs.declared.read_error.ReadError.TheVariants as read
use Rattle.isle_lawful_names.specs.declared.name_error.NameError.{NameError}
use Rattle.isle_meta.specs.declared.errors.Unsupported.{Unsupported}
use Rattle.isle_meta.specs.declared.tables.Tables.{Tables}
use Rattle.isle_outside.specs.Directory.{Contents, Counts}
use Rattle.isle_outside.specs.declared.errors.IoCause.{IoCause}
use Rattle.isle_table_check.specs.SupportedTables.{AreSupported, IsFirstUnsupported}
use Rattle.isle_units.specs.Units.{inputs_of}
use Rattle.isle_units.specs.declared.compilation.IsleCompilation.{IsleCompilation}
use Rattle.isle_build.specs.UnitSource.{AreUnitTexts, IsSourceOfUnit, unit_named}
use Rattle.isle_build.specs.declared.build_error.BuildError.{BuildError}
use Rattle.isle_build.specs.declared.build_error.BuildError.TheVariants as error

-- the text is that of the definitions of the unit's source, after the header comment that names its files
pub record IsBuilt (t : Tables) (options : CodegenOptions) (name : List ℕ) (files : Option Contents) (text : List ℕ) : Type 0 where
  pub source : FileTexts
  pub is_source : IsSourceOfUnit t options name files source
  pub compiles : CompilesTo options source text
  pub header : HasHeader source.file_names text

-- the tables are supported, all tracked inputs were read, and this is so of the unit's printed names and texts
pub record IsReadUnit (t : Tables) (options : CodegenOptions) (files : Option Contents) (before after : Counts) (P : (names texts : List (List ℕ)) → Type 0) (u : IsleCompilation) : Type 0 where
  pub supported : AreSupported t
  pub tried : AllTried u.tracked_inputs before after
  pub texts : List (List ℕ)
  pub are_texts : AreUnitTexts t u files texts
  pub holds : P (printed options (inputs_of u)) texts

-- why the files of a unit aren't had over tables: a row of the tables isn't supported, the first one, with its first shape; a tracked input was not
-- read, the first that is not; or memory ran out
pub data HasNoFiles (t : Tables) (files : Option Contents) (before after : Counts) (u : IsleCompilation) : BuildError → Type 0 where
  unsupported : (found : Unsupported) → IsFirstUnsupported t (Some found) → HasNoFiles t files before after u (error.Unsupported found)
  unread : (index : ℕ) (why : IoCause) → AreSupported t → Fails (read.Io index why) files u.tracked_inputs before after → HasNoFiles t files before after u (error.Io index why)
  memory : after.faults ≡ before.faults → HasNoFiles t files before after u error.Memory

-- why a unit has no text over tables: its files aren't had; or all were read, and their definitions have these errors, or this name may not be emitted
pub data HasNoText (t : Tables) (options : CodegenOptions) (files : Option Contents) (before after : Counts) (u : IsleCompilation) : BuildError → Type 0 where
  no_files : (e : BuildError) → HasNoFiles t files before after u e → HasNoText t options files before after u e
  wrong : (e : Errors) → IsReadUnit t options files before after (IsErrors e) u → HasNoText t options files before after u (error.Errors e)
  misnamed : (e : NameError) → IsReadUnit t options files before after (λ names texts. IsNameError names texts e) u → HasNoText t options files before after u (error.Name e)

-- why what is asked of the unit of a name isn't had: no unit has the name; one has, and this is why it isn't; or memory ran out before it was found
pub data FailsOf (name : List ℕ) (why : IsleCompilation → BuildError → Type 0) (before after : Counts) : BuildError → Type 0 where
  no_unit : unit_named name ≡ None → FailsOf name why before after error.NoUnit
  listed : (u : IsleCompilation) (e : BuildError) → unit_named name ≡ Some u → why u e → FailsOf name why before after e
  no_memory : after.faults ≡ before.faults → FailsOf name why before after error.Memory

-- why the files of the unit of a name aren't had
abbrev pub FailsToRead : Tables → (name : List ℕ) → Option Contents → (before after : Counts) → BuildError → Type 0
FailsToRead t name files before after = FailsOf name (HasNoFiles t files before after) before after

-- why it isn't built
abbrev pub FailsToBuild : Tables → CodegenOptions → (name : List ℕ) → Option Contents → (before after : Counts) → BuildError → Type 0
FailsToBuild t options name files before after = FailsOf name (HasNoText t options files before after) before after
