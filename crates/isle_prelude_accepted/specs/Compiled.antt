-- What compiling the written prelude of tables and the file behind it answers: a text, or that memory ran out.
use Rattle.std.specs.Prelude.{◌≡◌, ℕ, List, Some, IsTrue, flat_map}
use Rattle.std.specs.List.{AllByRecursion}
use Rattle.isle_core.specs.declared.files.Files.{Files}
use Rattle.isle_core.specs.declared.options.CodegenOptions.{CodegenOptions}
use Rattle.isle_core.specs.Inputs.{AreRead}
use Rattle.isle_outside.specs.Directory.{Contents, Counts, Rose}
use Rattle.isle_ast.specs.Tree.{Def}
use Rattle.isle_codegen.specs.declared.compile_error.CompileError.{CompileError}
use Rattle.isle_codegen.specs.declared.compile_error.CompileError.TheVariants as compile_error
use Rattle.isle_codegen.specs.declared.file_error.FileError.{FileError}
use Rattle.isle_codegen.specs.declared.file_error.FileError.TheVariants as error
use Rattle.isle_codegen.specs.Causes.{HasCause, IsTextRefusal, IsUncompiled, printed}
use Rattle.isle_lawful_names.specs.Words.{is_file_name}
use Rattle.isle_meta.specs.declared.tables.Tables.{Tables}
use Rattle.isle_writing.specs.Erased.{all_erased}
use Rattle.isle_prelude_accepted.specs.Accepted.{prelude_defs, SpellParts}

-- files may have these names
abbrev pub AreFileNames : List (List ℕ) → Type 0
AreFileNames names = AllByRecursion (λ name. IsTrue (is_file_name name)) names

-- files with these printed names and texts spell the written prelude and the file behind it, part by part, and may have these names
pub record ArePreludeFiles (t : Tables) (names texts : List (List ℕ)) : Type 0 where
  pub lawful : AreFileNames names
  pub parts : List (List Def)
  pub spelt : SpellParts texts parts
  pub together : flat_map (λ ds. ds) parts ≡ prelude_defs t

-- at whatever places these definitions stand, compiling them is refused only for want of memory
abbrev pub AreDefsCompiled : Tables → Type 0
AreDefsCompiled t =
    (files : Files) (defs : List Def) (e : CompileError) → AreFileNames files.file_names → all_erased defs ≡ all_erased (prelude_defs t)
    → IsUncompiled e files defs → e ≡ compile_error.Memory

-- so is compiling texts that spell them
abbrev pub AreTextsCompiled : Tables → Type 0
AreTextsCompiled t =
    (files : Files) (e : CompileError) → ArePreludeFiles t files.file_names files.file_texts → IsTextRefusal e files → e ≡ compile_error.Memory

-- so is compiling files of a directory that hold such texts, each of 2^24 bytes at most, if none of the directory's calls fails
abbrev pub AreFilesCompiled : Tables → Type 0
AreFilesCompiled t =
    (options : CodegenOptions) (names texts : List (List ℕ)) (fs : Contents) (before after : Counts) (e : FileError)
    → ArePreludeFiles t (printed options names) texts → AreRead fs names texts → (Rose before.faults after.faults → ⊥)
    → HasCause e options (Some fs) names before after → e ≡ error.Memory
