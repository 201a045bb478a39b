-- Why an input is not read, and how often one is looked up.
use Rattle.std.specs.Prelude.{◌≡◌, ℕ, List, Option, Some, None, IfSome}
use Rattle.isle_outside.specs.Directory.{Contents, bytes_of, Counts, raised}
use Rattle.isle_outside.specs.Reading.{IsCause, RoseAt}
use Rattle.isle_outside.specs.declared.errors.IoCause.{IoCause}
use Rattle.isle_codegen.specs.declared.file_error.FileError.TheVariants as file
use Rattle.isle_core.specs.Inputs.{Fails}
use Rattle.isle_core.specs.declared.read_error.ReadError.{ReadError}
use Rattle.isle_top.specs.declared.refusal.Refusal.{Refusal}
use Rattle.isle_top.specs.declared.refusal.Refusal.TheVariants as refusal
use Rattle.isle_top.specs.Job.{Around}
use Rattle.isle_top.specs.Sourcing.{Sourcing}
use Rattle.isle_core.specs.declared.read_error.ReadError.TheVariants as error

-- why the input of this number and name is not read
abbrev pub FailsTo : ReadError → (index : ℕ) → Option Contents → List ℕ → (before after : Counts) → Type 0
FailsTo error.Memory index files name before after = after.faults ≡ before.faults
FailsTo (error.Io at why) index files name before after =
    (at ≡ index) × (after.finds ≡ raised 1 before.finds) × RoseAt why before.faults after.faults × IfSome files (λ fs. IsCause why (bytes_of fs name))

-- the name was looked up, if there is one
abbrev pub LooksUp : Option (List ℕ) → (before after : Counts) → Type 0
LooksUp None before after = after.finds ≡ before.finds
LooksUp (Some name) before after = after.finds ≡ raised 1 before.finds

-- why the files of a source aren't had: it fails before one of its own is read; or one isn't read, the first that is not; or memory ran out
pub data FailsToHave (from : Sourcing) (around : Around) : Refusal → Type 0 where
  early : (e : Refusal) → from.early e around → FailsToHave from around e
  unread : (index : ℕ) (why : IoCause) → from.ready around.files → Fails (error.Io index why) around.files from.inputs around.before around.after → FailsToHave from around (refusal.Files (file.Io index why))
  memory : around.after.faults ≡ around.before.faults → FailsToHave from around (refusal.Files file.Memory)
