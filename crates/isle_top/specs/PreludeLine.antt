-- A line that writes a prelude.
use Rattle.std.specs.Prelude.{◌≡◌, List, ℕ, [], length, nat_le, Some}
use Rattle.isle_assembler.specs.AssemblerDefs.{assembler_defs, assembler_layout}
use Rattle.isle_assembler.specs.Methods.{assembler_methods}
use Rattle.isle_ast.specs.Tree.{Def}
use Rattle.isle_codegen.specs.declared.file_error.FileError.TheVariants as file
use Rattle.isle_command_line.specs.declared.commands.Kind.{Kind}
use Rattle.isle_command_line.specs.declared.commands.Kind.TheVariants as kind
use Rattle.isle_meta.specs.declared.tables.Tables.{Tables}
use Rattle.isle_numeric_methods.specs.Methods.{numeric_methods}
use Rattle.isle_numerics.specs.Definitions.{numeric_defs}
use Rattle.isle_prelude.specs.ClifFiles.{opt_defs, lower_defs}
use Rattle.isle_prelude.specs.Generated.{IsTextOf}
use Rattle.isle_pulley.specs.RuleFile.{pulley_defs}
use Rattle.isle_pulley.specs.RustText.{pulley_rust}
use Rattle.isle_table_check.specs.SupportedTables.{AreSupported, IsFirstUnsupported}
use Rattle.isle_writing.specs.LaidDefs.{laid_texts}
use Rattle.isle_writing.specs.Spelt.{SpellsOnly}
use Rattle.isle_writing.specs.Text.{def_texts}
use Rattle.isle_top.specs.declared.refusal.Refusal.{Refusal}
use Rattle.isle_top.specs.declared.refusal.Refusal.TheVariants as refusal
use Rattle.isle_top.specs.Job.{Job}
use Rattle.isle_top.specs.Tabling.{FailsOver, OfTables, Tabling}
use Rattle.isle_top.specs.Wants.{IsWant}

-- the prelude of this kind can be written: each row is supported, if it is made of rows
abbrev pub MayBeWritten : Kind → Tables → Type 0
MayBeWritten kind.Numerics t = Unit {0}
MayBeWritten kind.NumericsRust t = Unit {0}
MayBeWritten kind.ClifOpt t = AreSupported t
MayBeWritten kind.ClifLower t = AreSupported t
MayBeWritten kind.Assembler t = AreSupported t
MayBeWritten kind.AssemblerRust t = AreSupported t
MayBeWritten kind.Pulley t = AreSupported t
MayBeWritten kind.PulleyRust t = AreSupported t

-- the text is the one written for these definitions, and spells them and no others
abbrev pub IsRulesText : (written : List ℕ) → List Def → (text : List ℕ) → Type 0
IsRulesText written defs text = (text ≡ written) × SpellsOnly text defs

-- each row is supported, and the text is the one written for these definitions, and spells them and no others
abbrev pub AreRulesOf : Tables → (written : List ℕ) → List Def → (text : List ℕ) → Type 0
AreRulesOf t written defs text = AreSupported t × IsRulesText written defs text

-- each row is supported, and the text is this one
abbrev pub IsRustOf : Tables → (rust text : List ℕ) → Type 0
IsRustOf t rust text = AreSupported t × (text ≡ rust)

-- the text is the prelude of this kind: rules that spell its definitions and no others, or its Rust text
abbrev pub IsPrelude : Tables → Kind → List ℕ → Type 0
IsPrelude t kind.Numerics text = IsRulesText (def_texts numeric_defs) numeric_defs text
IsPrelude t kind.NumericsRust text = text ≡ numeric_methods
IsPrelude t kind.ClifOpt text = IsTextOf t (opt_defs t) text
IsPrelude t kind.ClifLower text = IsTextOf t (lower_defs t) text
IsPrelude t kind.Assembler text = AreRulesOf t (laid_texts (assembler_layout t.x64)) (assembler_defs t.x64) text
IsPrelude t kind.AssemblerRust text = IsRustOf t (assembler_methods t.x64) text
IsPrelude t kind.Pulley text = AreRulesOf t (def_texts (pulley_defs t.ops t.extended_ops)) (pulley_defs t.ops t.extended_ops) text
IsPrelude t kind.PulleyRust text = IsRustOf t (pulley_rust t.ops t.extended_ops) text

-- why a text that is made of rows isn't: one isn't supported, and it is the first, with its first shape; or memory ran out
abbrev pub FailsByRows : Tables → Refusal → Type 0
FailsByRows t (refusal.Tables found) = IsFirstUnsupported t (Some found)
FailsByRows t (refusal.Files e) = e ≡ file.Memory
FailsByRows t e = ⊥

-- why the prelude isn't written: as one that is made of rows, or memory ran out
abbrev pub FailsToWrite : Kind → Tables → Refusal → Type 0
FailsToWrite kind.Numerics t = IsWant
FailsToWrite kind.NumericsRust t = IsWant
FailsToWrite kind.ClifOpt t = FailsByRows t
FailsToWrite kind.ClifLower t = FailsByRows t
FailsToWrite kind.Assembler t = FailsByRows t
FailsToWrite kind.AssemblerRust t = FailsByRows t
FailsToWrite kind.Pulley t = FailsByRows t
FailsToWrite kind.PulleyRust t = FailsByRows t

-- the prelude of this kind is written over tables, and no other files are read than theirs
abbrev pub prelude_job : Tabling → Kind → Job
prelude_job over k = record {
  reads = nat_le 1 (length over.inputs);
  inputs = over.inputs;
  asked = [];
  unit = [];
  valid = λ files. OfTables over files (MayBeWritten k);
  gives = λ files text. OfTables over files (λ t. IsPrelude t k text);
  fails = λ e around. FailsOver over (FailsToWrite k) around e;
}
