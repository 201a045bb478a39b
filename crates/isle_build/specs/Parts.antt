-- What private functions say: the files of a unit, and why their texts give none.
use Rattle.std.specs.Prelude.{◌≡◌, Option}
use Rattle.isle_codegen.specs.Causes.{printed}
use Rattle.isle_codegen.specs.declared.compile_error.CompileError.{CompileError}
use Rattle.isle_codegen.specs.declared.compile_error.CompileError.TheVariants as compile_error
use Rattle.isle_core.specs.declared.files.Files.{Files as FileTexts}
use Rattle.isle_core.specs.declared.options.CodegenOptions.{CodegenOptions}
use Rattle.isle_meta.specs.declared.tables.Tables.{Tables}
use Rattle.isle_outside.specs.Directory.{Contents}
use Rattle.isle_units.specs.Units.{inputs_of}
use Rattle.isle_units.specs.declared.compilation.IsleCompilation.{IsleCompilation}
use Rattle.isle_build.specs.UnitSource.{AreUnitTexts}
use Rattle.isle_build.specs.declared.build_error.BuildError.{BuildError}
use Rattle.isle_build.specs.declared.build_error.BuildError.TheVariants as error

-- why a unit isn't built, if the texts of its files give none: errors are reported with the files
abbrev pub of_texts : FileTexts → CompileError → BuildError
of_texts files (compile_error.Errors errors) = error.Errors (record { errors = errors; files = files })
of_texts files (compile_error.Name name) = error.Name name
of_texts files compile_error.Memory = error.Memory

-- a source has the names of all inputs of a unit as printed, and their texts
pub record AreUnitFiles (t : Tables) (options : CodegenOptions) (u : IsleCompilation) (files : Option Contents) (source : FileTexts) : Type 0 where
  pub named : source.file_names ≡ printed options (inputs_of u)
  pub texts : AreUnitTexts t u files source.file_texts
