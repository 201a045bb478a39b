-- What the check of tables and the making of texts answer, and the files that are made of texts.
use Rattle.std.specs.Prelude.{◌≡◌, ℕ, List, [], ◌∷◌, ◌++◌, Some, Result, Ok, Err, string_bytes, codes}
use Rattle.isle_assembler.specs.AssemblerDefs.{assembler_layout}
use Rattle.isle_assembler.specs.Methods.{assembler_methods}
use Rattle.isle_meta.specs.Layout.{joined_name}
use Rattle.isle_meta.specs.declared.errors.GenError.{GenError}
use Rattle.isle_meta.specs.declared.errors.GenError.TheVariants as gen
use Rattle.isle_meta.specs.declared.tables.Tables.{Tables}
use Rattle.isle_numeric_methods.specs.Methods.{numeric_methods}
use Rattle.isle_numerics.specs.Definitions.{numeric_defs}
use Rattle.isle_prelude.specs.ClifFiles.{lower_defs, opt_defs}
use Rattle.isle_prelude_files.specs.Outputs.{File}
use Rattle.isle_pulley.specs.RuleFile.{pulley_defs}
use Rattle.isle_pulley.specs.RustText.{pulley_rust}
use Rattle.isle_table_check.specs.SupportedTables.{AreSupported, IsFirstUnsupported}
use Rattle.isle_unit_files.specs.declared.outputs.Folders.{Folders}
use Rattle.isle_unit_files.specs.declared.texts.AllTexts.{AllTexts}
use Rattle.isle_unit_files.specs.declared.texts.BuildTexts.{BuildTexts}
use Rattle.isle_unit_files.specs.declared.texts.IsleTexts.{IsleTexts}
use Rattle.isle_writing.specs.LaidDefs.{laid_texts}
use Rattle.isle_writing.specs.Text.{def_texts}

-- ---- the check

-- all rows are supported; or the first that isn't; or memory ran out, and nothing was written
abbrev pub ChecksAll : Tables → Result (Unit {0}) GenError → Type 0
ChecksAll t (Ok done) = AreSupported t
ChecksAll t (Err (gen.Unsupported found)) = IsFirstUnsupported t (Some found)
ChecksAll t (Err (gen.Dir n)) = ⊥
ChecksAll t (Err (gen.Memory n)) = n ≡ 0

-- ---- texts

-- these are the six texts among rules
pub record AreIsleTexts (t : Tables) (texts : IsleTexts) : Type 0 where
  pub numerics : string_bytes texts.numerics ≡ def_texts numeric_defs
  pub methods : string_bytes texts.methods ≡ numeric_methods
  pub opt : string_bytes texts.opt ≡ def_texts (opt_defs t)
  pub lower : string_bytes texts.lower ≡ def_texts (lower_defs t)
  pub pulley : string_bytes texts.pulley ≡ def_texts (pulley_defs t.ops t.extended_ops)
  pub assembler : string_bytes texts.assembler ≡ laid_texts (assembler_layout t.x64)

-- these are those and the macro's text
pub record AreBuildTexts (t : Tables) (texts : BuildTexts) : Type 0 where
  pub rules : AreIsleTexts t texts.rules
  pub assembler : string_bytes texts.assembler ≡ assembler_methods t.x64

-- these are those and the text of Pulley's instructions
pub record AreAllTexts (t : Tables) (texts : AllTexts) : Type 0 where
  pub build : AreBuildTexts t texts.build
  pub pulley : string_bytes texts.pulley ≡ pulley_rust t.ops t.extended_ops

-- ---- files of texts

-- the file of Pulley's instructions
abbrev pub pulley_with : (folder text : List ℕ) → List File
pulley_with folder text = (joined_name folder (codes "pulley_inst_gen.rs"), text) ∷ []

-- the six files among rules, in order
abbrev pub isle_with : (folder : List ℕ) → IsleTexts → List File
isle_with folder texts =
    (joined_name folder (codes "numerics.isle"), string_bytes texts.numerics)
    ∷ (joined_name folder (codes "isle_numerics.rs"), string_bytes texts.methods)
    ∷ (joined_name folder (codes "clif_opt.isle"), string_bytes texts.opt)
    ∷ (joined_name folder (codes "clif_lower.isle"), string_bytes texts.lower)
    ∷ (joined_name folder (codes "pulley_gen.isle"), string_bytes texts.pulley)
    ∷ (joined_name folder (codes "assembler.isle"), string_bytes texts.assembler)
    ∷ []

-- those, and then the macro's file
abbrev pub build_with : Folders → BuildTexts → List File
build_with f texts =
    isle_with f.rules.now texts.rules ++ (joined_name f.out.now (codes "assembler-isle-macro.rs"), string_bytes texts.assembler) ∷ []

-- that of Pulley's instructions, and then those
abbrev pub all_with : Folders → AllTexts → List File
all_with f texts = pulley_with f.out.now (string_bytes texts.pulley) ++ build_with f texts.build
