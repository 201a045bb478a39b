-- Which tables of instructions a line is over.
use Rattle.std.specs.Prelude.{◌≡◌, ℕ, List, [], Option, Some}
use Rattle.isle_codegen.specs.Causes.{AllTried}
use Rattle.isle_meta.specs.declared.errors.Unsupported.{Unsupported}
use Rattle.isle_meta.specs.declared.tables.Tables.{Tables}
use Rattle.isle_outside.specs.Directory.{Contents}
use Rattle.isle_table_check.specs.SupportedTables.{IsFirstUnsupported}
use Rattle.isle_top.specs.declared.refusal.Refusal.{Refusal}
use Rattle.isle_top.specs.declared.refusal.Refusal.TheVariants as refusal
use Rattle.isle_top.specs.Job.{Around}

-- tables: the names of the files that are read for them, in order and before all others; which tables they are where the directory tells these files;
-- and why they aren't had
pub record Tabling : Type 1 where
  pub inputs : List (List ℕ)
  pub are : Option Contents → Tables → Type 0
  pub early : Refusal → Around → Type 0

-- tables that are handed in: nothing is read for them
abbrev pub handed : Tables → Tabling
handed t = record { inputs = []; are = λ files u. u ≡ t; early = λ e around. ⊥ }

-- the tables are had, and this is so of them
abbrev pub OfTables : Tabling → Option Contents → (Tables → Type 0) → Type 0
OfTables over files P = (t : Tables) × over.are files t × P t

-- why nothing is made of them: they aren't had; or they are, and this is why, once the files that are read for them were looked up
pub data FailsOver (over : Tabling) (why : Tables → Refusal → Type 0) (around : Around) : Refusal → Type 0 where
  not_had : (e : Refusal) → over.early e around → FailsOver over why around e
  had : (t : Tables) (e : Refusal) → over.are around.files t → AllTried over.inputs around.before around.after → why t e → FailsOver over why around e

-- a row isn't supported, and it is the first, with its first shape
pub data HasUnsupported (t : Tables) : Refusal → Type 0 where
  unsupported : (found : Unsupported) → IsFirstUnsupported t (Some found) → HasUnsupported t (refusal.Tables found)
