-- The files of supported tables can be written, so their texts spell their definitions.
use Rattle.std.proofs.Common.{◌≡◌, ℕ, List, ◌++◌, Bool, Option}
use Rattle.std.specs.Prelude.{slice_get}
use Rattle.std.specs.List.{AllByRecursion}
use Rattle.isle_ast.specs.Tree.{Def}
use Rattle.isle_meta.specs.declared.clif.Instruction.{Instruction}
use Rattle.isle_meta.specs.declared.tables.Tables.{Tables}
use Rattle.isle_meta.specs.FormatRow.{all_fields}
use Rattle.isle_spelling.specs.Identifier.{IsIdentifier}
use Rattle.isle_table_check.specs.SupportedTables.{AreSupported}
use Rattle.isle_prelude.specs.Arrays.{arrays}
use Rattle.isle_prelude.specs.ClifFiles.{file_defs, lower_defs, of_format, opt_defs}
use Rattle.isle_prelude.specs.CommonDefs.{common_defs, imm_defs}
use Rattle.isle_prelude.specs.FileManners.{file_manner}
use Rattle.isle_prelude.specs.Generated.{IsTextOf}
use Rattle.isle_prelude.specs.InstructionData.{data_defs}
use Rattle.isle_prelude.specs.Manners.{Manner, lower_manner, opt_manner}
use Rattle.isle_prelude.specs.declared.manners.InstructionFile.{InstructionFile}
use Rattle.isle_prelude.specs.declared.manners.InstructionFile.TheVariants as file
use Rattle.isle_writing.specs.Text.{def_texts}
use Rattle.isle_writing.specs.Writable.{AreWritable, IsWritable}
use Rattle.isle_writing.proofs.Joined.{writable_joined}
use Rattle.isle_writing.proofs.WrittenLaw.{written_spelt}
use Rattle.isle_prelude.proofs.AllLaws.{all_each, all_to}
use Rattle.isle_prelude.proofs.InstructionsWritable.{AreManners, instruction_writable, lower_manners, opt_manners}
use Rattle.isle_prelude.proofs.SupportedLaws.{AreNamed, IsNamedInstruction, tables_named}
use Rattle.isle_prelude.proofs.TypesWritable.{arrays_writable, data_writable, field_types_writable}

common_writable : (t : Tables) → AreNamed t → AreWritable (common_defs t)
common_writable t h =
    let camels : AllByRecursion (λ (i : Instruction). IsIdentifier i.camel_name) t.instructions =
    all_to (IsNamedInstruction t.formats) (λ (i : Instruction). IsIdentifier i.camel_name) (λ i n. n.camel) t.instructions h.instructions in
    writable_joined (imm_defs (all_fields t.formats)) (arrays t.formats ++ data_defs t.formats t.instructions) (field_types_writable t.formats h.formats)
    (writable_joined (arrays t.formats) (data_defs t.formats t.instructions) (arrays_writable t.formats)
    (data_writable t.formats t.instructions h.formats camels))

-- a file of supported tables
pub file_writable : (manner : Bool → Instruction → Option Manner) (t : Tables) → AreManners manner → AreSupported t
    → AreWritable (file_defs manner t)
file_writable manner t w h =
    let named : AreNamed t = tables_named t h in
    writable_joined (common_defs t) _ (common_writable t named)
    (all_each (IsNamedInstruction t.formats) (λ (d : Def). IsWritable d) (λ (i : Instruction). of_format manner (slice_get t.formats i.format) i)
    (λ i n. instruction_writable manner t.formats i w named.formats n) t.instructions named.instructions)

-- that of an optimizer
pub opt_writable : (t : Tables) → AreSupported t → AreWritable (opt_defs t)
opt_writable t h = file_writable opt_manner t opt_manners h

-- that of lowering
pub lower_writable : (t : Tables) → AreSupported t → AreWritable (lower_defs t)
lower_writable t h = file_writable lower_manner t lower_manners h

-- ---- what their texts spell

manners_of : (file : InstructionFile) → AreManners (file_manner file)
manners_of file.Opt = opt_manners
manners_of file.Lower = lower_manners

-- the text of a file of supported tables
pub file_spelt : (file : InstructionFile) (t : Tables) (text : List ℕ) → AreSupported t → text ≡ def_texts (file_defs (file_manner file) t)
    → IsTextOf t (file_defs (file_manner file) t) text
file_spelt file t text h e =
    record {
      supported = h;
      written = e;
      spelt = written_spelt text (file_defs (file_manner file) t) (file_writable (file_manner file) t (manners_of file) h) e;
    }
