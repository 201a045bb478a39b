-- What rows of supported tables are like.
use Rattle.std.proofs.Common.{◌≡◌, ℕ, zero, suc, List, [], length, map, Bool, true, false, Option, Some, refl, sym, ap, subst, arith}
use Rattle.std.specs.Prelude.{IsSomeAnd, slice_get}
use Rattle.std.specs.List.{AllByRecursion}
use Rattle.isle_meta.specs.declared.clif.ImmField.{ImmField}
use Rattle.isle_meta.specs.declared.clif.Instruction.{Instruction}
use Rattle.isle_meta.specs.declared.clif.InstructionFormat.{InstructionFormat}
use Rattle.isle_meta.specs.declared.tables.Tables.{Tables}
use Rattle.isle_meta.specs.FormatRow.{format_names}
use Rattle.isle_meta.specs.InstructionRow.{imm_types, operand_names, types_differ}
use Rattle.isle_meta.specs.ClifRows.{FormatBreaks, InstructionBreaks}
use Rattle.isle_meta.specs.FirstRow.{shapes}
use Rattle.isle_meta.specs.TableNames.{IsTermName}
use Rattle.isle_spelling.specs.Identifier.{IsIdentifier}
use Rattle.isle_table_check.specs.SupportedTables.{AreSupported}
use Rattle.isle_meta.proofs.FirstRows.{BreaksNone, each_row}
use Rattle.isle_meta.proofs.NameWords.{stable_identifiers}
use Rattle.isle_prelude.proofs.NameLaws.{stable_names}

-- ---- formats

-- a format's name and those of its immediates are identifiers
abbrev pub IsNamedFormat : InstructionFormat → Type 0
IsNamedFormat f = AllByRecursion IsIdentifier (format_names f)

-- ---- instructions

-- the instruction has as many immediates as the format, and their short names are those of the format's fields
pub record HasTypesOf (i : Instruction) (f : InstructionFormat) : Type 0 where
  pub count : length (imm_types i) ≡ length f.imm_fields
  pub same : types_differ (imm_types i) (map (λ (field : ImmField). field.rust_type) f.imm_fields) ≡ false

-- an instruction's names, and its types beside its format
pub record IsNamedInstruction (formats : List InstructionFormat) (i : Instruction) : Type 0 where
  pub name : IsTermName i.name
  pub camel : IsIdentifier i.camel_name
  pub operands : AllByRecursion IsIdentifier (operand_names i)
  pub types : (f : InstructionFormat) → slice_get formats i.format ≡ Some f → HasTypesOf i f

stable_equal : (m n : ℕ) → ((m ≡ n → ⊥) → ⊥) → m ≡ n
stable_equal zero zero h = refl
stable_equal zero (suc n) h = absurd (h (λ e. cc))
stable_equal (suc m) zero h = absurd (h (λ e. cc))
stable_equal (suc m) (suc n) h = ap suc (stable_equal m n (λ no. h (λ e. no (omega (arith, e)))))

not_so : (b : Bool) → (b ≡ true → ⊥) → b ≡ false
not_so true h = absurd (h refl)
not_so false h = refl

-- what isn't so of the format isn't so of this one
not_of : (o : Option InstructionFormat) (P : InstructionFormat → Type 0) (f : InstructionFormat) → o ≡ Some f → (IsSomeAnd o P → ⊥) → P f → ⊥
not_of o P f e h p = h (subst (λ (x : Option InstructionFormat). IsSomeAnd x P) (sym e) p)

instruction_named : (formats : List InstructionFormat) (before : List Instruction) (i : Instruction) → BreaksNone (InstructionBreaks formats before i) shapes
    → IsNamedInstruction formats i
instruction_named formats before i h =
    let names = stable_names i.name i.camel_name (operand_names i) h.0 in
    record {
      name = names.0;
      camel = names.1;
      operands = names.2;
      types = λ f e. record {
        count = stable_equal (length (imm_types i)) (length f.imm_fields) (not_of (slice_get formats i.format) _ f e h.1.1.1.1.1.1.1.1.0);
        same = not_so (types_differ (imm_types i) (map (λ (field : ImmField). field.rust_type) f.imm_fields)) (not_of (slice_get formats i.format) _ f e h.1.1.1.1.1.1.1.1.1.0);
      };
    }

-- ---- tables

-- the names of all formats and instructions
pub record AreNamed (t : Tables) : Type 0 where
  pub formats : AllByRecursion IsNamedFormat t.formats
  pub instructions : AllByRecursion (IsNamedInstruction t.formats) t.instructions

pub tables_named : (t : Tables) → AreSupported t → AreNamed t
tables_named t h =
    record {
      formats = each_row (λ (f : InstructionFormat). f.name) FormatBreaks IsNamedFormat (λ before f k. stable_identifiers (format_names f) k.0) [] t.formats h.0;
      instructions = each_row (λ (i : Instruction). i.name) (InstructionBreaks t.formats) (IsNamedInstruction t.formats) (instruction_named t.formats) [] t.instructions h.1.0;
    }
