-- What the functions that generate Pulley's texts answer and leave.
use Rattle.std.specs.Prelude.{◌≡◌, ℕ, List, [], ◌∷◌, ◌++◌, Option, Some, None, Result, Ok, Err, String, string_bytes}
use Rattle.isle_meta.specs.Layout.{joined_name}
use Rattle.isle_meta.specs.declared.errors.GenError.{GenError}
use Rattle.isle_meta.specs.declared.errors.GenError.TheVariants as gen
use Rattle.isle_meta.specs.declared.errors.TableFail.{TableFail}
use Rattle.isle_meta.specs.declared.errors.TableFail.TheVariants as fail
use Rattle.isle_meta.specs.declared.pulley.PulleyInst.{PulleyInst}
use Rattle.isle_outside.specs.Directory.{Contents}
use Rattle.isle_prelude_files.specs.Outputs.{File, Writes}
use Rattle.isle_writing.specs.Spelt.{SpellsOnly}
use Rattle.isle_writing.specs.Text.{def_texts}
use Rattle.isle_pulley.specs.Display.{display_item}
use Rattle.isle_pulley_rows.specs.Operations.{operations}
use Rattle.isle_pulley_rows.specs.PulleyRows.{IsFirstOperation}
use Rattle.isle_pulley.specs.RuleFile.{pulley_defs}
use Rattle.isle_pulley.specs.RustText.{pulley_rust}

-- ---- texts

-- each row is supported, and the text is that of the definitions: it spells them and no others
pub record IsRuleText (ops extended : List PulleyInst) (text : List ℕ) : Type 0 where
  pub supported : IsFirstOperation [] ops extended None
  pub writes : text ≡ def_texts (pulley_defs ops extended)
  pub spells : SpellsOnly text (pulley_defs ops extended)

-- the rule text, or the first row that isn't supported; want of memory is left open
abbrev pub GivesRules : {A : Type 0} → (ops extended : List PulleyInst) → Result (String A) TableFail → Type 0
GivesRules ops extended (Ok text) = IsRuleText ops extended (string_bytes text)
GivesRules ops extended (Err (fail.Unsupported found)) = IsFirstOperation [] ops extended (Some found)
GivesRules ops extended (Err fail.Memory) = Unit {0}

-- the Rust text, or the first row that isn't supported; want of memory is left open
abbrev pub GivesRust : {A : Type 0} → (ops extended : List PulleyInst) → Result (String A) TableFail → Type 0
GivesRust ops extended (Ok text) = IsFirstOperation [] ops extended None × (string_bytes text ≡ pulley_rust ops extended)
GivesRust ops extended (Err (fail.Unsupported found)) = IsFirstOperation [] ops extended (Some found)
GivesRust ops extended (Err fail.Memory) = Unit {0}

-- the first item of the Rust text behind what stood there; after a refusal the text is as before
abbrev pub AppendsDisplay : (ops extended : List PulleyInst) (old new : List ℕ) → Result (Unit {0}) TableFail → Type 0
AppendsDisplay ops extended old new (Ok done) = IsFirstOperation [] ops extended None × (new ≡ old ++ display_item (operations ops extended))
AppendsDisplay ops extended old new (Err (fail.Unsupported found)) = IsFirstOperation [] ops extended (Some found) × (new ≡ old)
AppendsDisplay ops extended old new (Err fail.Memory) = new ≡ old

-- ---- files

-- the file of the rule text
abbrev pub rule_file : (folder name : List ℕ) (ops extended : List PulleyInst) → List File
rule_file folder name ops extended = (joined_name folder name, def_texts (pulley_defs ops extended)) ∷ []

-- the file of the Rust text
abbrev pub rust_file : (folder name : List ℕ) (ops extended : List PulleyInst) → List File
rust_file folder name ops extended = (joined_name folder name, pulley_rust ops extended) ∷ []

-- what the writing of a file of these rows leaves and answers. All rows are supported, and it is that of this file; or a row isn't, and all
-- files are as before. Memory may run out before that is known, and then nothing was written
abbrev pub WritesRows : (ops extended : List PulleyInst) → List File → (old new : Option Contents) → Result ℕ GenError → Type 0
WritesRows ops extended files old new (Ok n) = IsFirstOperation [] ops extended None × Writes files old new (Ok n)
WritesRows ops extended files old new (Err (gen.Unsupported found)) = IsFirstOperation [] ops extended (Some found) × (new ≡ old)
WritesRows ops extended files old new (Err (gen.Dir n)) = IsFirstOperation [] ops extended None × Writes files old new (Err (gen.Dir n))
WritesRows ops extended files old new (Err (gen.Memory n)) = Writes files old new (Err (gen.Memory n))
