-- Why a line has no text whose unit isn't built.
use Rattle.isle_build.specs.declared.build_error.BuildError.{BuildError}
use Rattle.isle_build.specs.declared.build_error.BuildError.TheVariants as error
use Rattle.isle_codegen.specs.declared.file_error.FileError.TheVariants as file
use Rattle.isle_top.specs.declared.refusal.Refusal.{Refusal}
use Rattle.isle_top.specs.declared.refusal.Refusal.TheVariants as refusal

-- the refusal of a line for what a unit fails by
abbrev pub of_build : BuildError → Refusal
of_build error.NoUnit = refusal.NoUnit
of_build (error.Unsupported found) = refusal.Tables found
of_build (error.Io index cause) = refusal.Files (file.Io index cause)
of_build (error.Errors errors) = refusal.Files (file.Errors errors)
of_build (error.Name e) = refusal.Files (file.Name e)
of_build error.Memory = refusal.Files file.Memory
