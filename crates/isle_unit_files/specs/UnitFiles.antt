-- The files that are generated for units, and what their writing leaves and answers if there may be none.
use Rattle.std.specs.Prelude.{◌≡◌, ℕ, List, [], ◌∷◌, ◌++◌, Bool, true, false, Option, Some, Result, Ok, Err, codes}
use Rattle.std.specs.List.{list_any}
use Rattle.isle_assembler.specs.AssemblerDefs.{assembler_layout}
use Rattle.isle_assembler.specs.Methods.{assembler_methods}
use Rattle.isle_meta.specs.Layout.{joined_name}
use Rattle.isle_meta.specs.declared.errors.GenError.{GenError}
use Rattle.isle_meta.specs.declared.errors.GenError.TheVariants as gen
use Rattle.isle_meta.specs.declared.tables.Tables.{Tables}
use Rattle.isle_numeric_methods.specs.Methods.{numeric_methods}
use Rattle.isle_numerics.specs.Definitions.{numeric_defs}
use Rattle.isle_outside.specs.Directory.{Contents}
use Rattle.isle_prelude.specs.ClifFiles.{lower_defs, opt_defs}
use Rattle.isle_prelude_files.specs.Outputs.{File}
use Rattle.isle_prelude_files.specs.PreludeFiles.{WritesPreludes}
use Rattle.isle_pulley.specs.RuleFile.{pulley_defs}
use Rattle.isle_pulley.specs.RustText.{pulley_rust}
use Rattle.isle_settings.specs.declared.isa.Isa.{Isa}
use Rattle.isle_settings.specs.declared.isa.Isa.TheVariants as isa
use Rattle.isle_table_check.specs.SupportedTables.{AreSupported, IsFirstUnsupported}
use Rattle.isle_writing.specs.LaidDefs.{laid_texts}
use Rattle.isle_writing.specs.Text.{def_texts}

-- ---- which files

-- whether this is one of Pulley's two targets
abbrev pub is_pulley : Isa → Bool
is_pulley isa.X86 = false
is_pulley isa.Arm64 = false
is_pulley isa.S390x = false
is_pulley isa.Riscv64 = false
is_pulley isa.Pulley32 = true
is_pulley isa.Pulley64 = true

-- whether a target of Pulley is among these
abbrev pub has_pulley : List Isa → Bool
has_pulley isas = list_any is_pulley isas

-- the Rust file of Pulley's instructions, if it is wanted
abbrev pub pulley_file : (wanted : Bool) → (out : List ℕ) → Tables → List File
pulley_file true out t = (joined_name out (codes "pulley_inst_gen.rs"), pulley_rust t.ops t.extended_ops) ∷ []
pulley_file false out t = []

-- the Rust files of targets: that of Pulley's instructions, if a target of Pulley is among them
abbrev pub rust_files : (out : List ℕ) → Tables → List Isa → List File
rust_files out t isas = pulley_file (has_pulley isas) out t

-- the files among rules, in order: the numeric prelude and its methods, instructions in an optimizer and in lowering, Pulley's and an
-- assembler's
abbrev pub isle_files : (dir : List ℕ) → Tables → List File
isle_files dir t =
    (joined_name dir (codes "numerics.isle"), def_texts numeric_defs)
    ∷ (joined_name dir (codes "isle_numerics.rs"), numeric_methods)
    ∷ (joined_name dir (codes "clif_opt.isle"), def_texts (opt_defs t))
    ∷ (joined_name dir (codes "clif_lower.isle"), def_texts (lower_defs t))
    ∷ (joined_name dir (codes "pulley_gen.isle"), def_texts (pulley_defs t.ops t.extended_ops))
    ∷ (joined_name dir (codes "assembler.isle"), laid_texts (assembler_layout t.x64))
    ∷ []

-- the file of an assembler's methods in Rust
abbrev pub macro_file : (out : List ℕ) → Tables → List File
macro_file out t = (joined_name out (codes "assembler-isle-macro.rs"), assembler_methods t.x64) ∷ []

-- all files, in order
abbrev pub all_files : (out dir : List ℕ) → Tables → List Isa → List File
all_files out dir t isas = rust_files out t isas ++ (isle_files dir t ++ macro_file out t)

-- ---- what their writing leaves and answers

-- what is answered if no file is to be written: the tables are checked, memory may run out, and all files are as before
abbrev pub WritesNone : Tables → (old new : Option Contents) → Result ℕ GenError → Type 0
WritesNone t old new (Ok n) = AreSupported t × (n ≡ 0) × (new ≡ old)
WritesNone t old new (Err (gen.Unsupported found)) = IsFirstUnsupported t (Some found) × (new ≡ old)
WritesNone t old new (Err (gen.Dir n)) = ⊥
WritesNone t old new (Err (gen.Memory n)) = (n ≡ 0) × (new ≡ old)

-- what the writing of files leaves and answers, of which there may be none: then it is that, and else as for preludes
abbrev pub WritesAny : Tables → List File → (old new : Option Contents) → Result ℕ GenError → Type 0
WritesAny t [] old new result = WritesNone t old new result
WritesAny t (file ∷ files) old new result = WritesPreludes t (file ∷ files) old new result
