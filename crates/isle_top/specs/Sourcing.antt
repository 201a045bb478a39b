-- Where the definitions of a line come from: from files that are named, or from those of a unit.
use Rattle.std.specs.Prelude.{◌≡◌, ℕ, List, [], ◌∷◌, ◌++◌, Option, None, IsSome}
use Rattle.isle_build.specs.UnitSource.{IsSourceOfUnit, tracked_of, unit_named}
use Rattle.isle_codegen.specs.Causes.{AreSource}
use Rattle.isle_command_line.specs.declared.commands.Source.{Source}
use Rattle.isle_command_line.specs.declared.commands.Source.TheVariants as source
use Rattle.isle_core.specs.declared.files.Files.{Files as FileTexts}
use Rattle.isle_core.specs.declared.options.CodegenOptions.{CodegenOptions}
use Rattle.isle_outside.specs.Directory.{Contents}
use Rattle.isle_table_check.specs.SupportedTables.{AreSupported}
use Rattle.isle_top.specs.declared.refusal.Refusal.{Refusal}
use Rattle.isle_top.specs.declared.refusal.Refusal.TheVariants as refusal
use Rattle.isle_top.specs.Job.{Around}
use Rattle.isle_top.specs.Tabling.{FailsOver, HasUnsupported, OfTables, Tabling}

-- a source: the names of the files that are read for it, in order; the name of its unit, if it is one; whether it can be had; which texts it is where the
-- directory tells these files, others that are generated among them wherever they stand; and why it isn't had before one of its own is read
pub record Sourcing : Type 1 where
  pub inputs : List (List ℕ)
  pub unit : List ℕ
  pub ready : Option Contents → Type 0
  pub is_source : Option Contents → FileTexts → Type 0
  pub early : Refusal → Around → Type 0

-- files of these names
abbrev pub from_names : CodegenOptions → List (List ℕ) → Sourcing
from_names options names = record {
  inputs = names;
  unit = [];
  ready = λ files. Unit {0};
  is_source = AreSource options names;
  early = λ e around. ⊥;
}

-- why the files of a unit aren't had before one of its own is read: no unit has the name; or one has, and nothing is made of the tables
pub data FailsEarly (over : Tabling) (unit : List ℕ) (around : Around) : Refusal → Type 0 where
  no_unit : unit_named unit ≡ None → FailsEarly over unit around refusal.NoUnit
  no_tables : (e : Refusal) → IsSome (unit_named unit) → FailsOver over HasUnsupported around e → FailsEarly over unit around e

-- the files of the unit of this name over tables, whose files are read first: it is listed, and each row is supported
abbrev pub from_unit : Tabling → CodegenOptions → (unit : List ℕ) → Sourcing
from_unit over options unit = record {
  inputs = over.inputs ++ tracked_of unit;
  unit = unit;
  ready = λ files. IsSome (unit_named unit) × OfTables over files AreSupported;
  is_source = λ files source. OfTables over files (λ t. IsSourceOfUnit t options unit files source);
  early = λ e around. FailsEarly over unit around e;
}

-- what a word of a line names
abbrev pub sourcing_of : Tabling → CodegenOptions → Source → Sourcing
sourcing_of over options (source.File name) = from_names options (name ∷ [])
sourcing_of over options (source.Unit unit) = from_unit over options unit
