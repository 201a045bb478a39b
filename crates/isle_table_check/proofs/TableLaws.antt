-- Tables are supported, or they have a first row that isn't.
use Rattle.std.proofs.Common.{◌≡◌, ℕ, List, [], ◌++◌, true, false, Option, Some, None, inl, inr}
use Rattle.std.specs.Prelude.{is_some, Result, Ok, Err}
use Rattle.isle_assembler_rows.specs.AssemblerRows.{AssemblerBreaks, IsFirstInst}
use Rattle.isle_meta.specs.declared.clif.Instruction.{Instruction}
use Rattle.isle_meta.specs.declared.clif.InstructionFormat.{InstructionFormat}
use Rattle.isle_meta.specs.Checked.{Answers, Checks}
use Rattle.isle_meta.specs.declared.errors.TableFail.{TableFail}
use Rattle.isle_meta.specs.declared.errors.TableFail.TheVariants as fail
use Rattle.isle_meta.specs.declared.errors.Unsupported.{Unsupported}
use Rattle.isle_meta.specs.declared.machine.Inst.{Inst}
use Rattle.isle_meta.specs.declared.pulley.PulleyInst.{PulleyInst}
use Rattle.isle_meta.specs.declared.tables.Tables.{Tables}
use Rattle.isle_meta.specs.ClifRows.{FormatBreaks, InstructionBreaks, IsFirstFormat, IsFirstInstruction}
use Rattle.isle_meta.specs.FirstRow.{FirstOf}
use Rattle.isle_meta.specs.InstructionRow.{own_names}
use Rattle.isle_meta.specs.Told.{Found, found_row}
use Rattle.isle_meta.proofs.FirstRows.{FindsOne, of_two_apart, one_of_two, one_row, row_apart}
use Rattle.isle_pulley_rows.specs.PulleyRows.{PulleyBreaks, IsFirstOperation}
use Rattle.isle_table_check.specs.SupportedTables.{AreSupported, IsFirstMachineRow, IsFirstUnsupported}

machine_apart : (t : Tables) (found : Unsupported) → IsFirstMachineRow t (Some found) → IsFirstMachineRow t None → ⊥
machine_apart t found =
    let names : List (List ℕ) = own_names t.instructions in
    of_two_apart (IsFirstInst names t.x64) (IsFirstOperation names t.ops t.extended_ops) found
    (row_apart (λ (i : Inst). i.name) (AssemblerBreaks names) [] t.x64 found)
    (row_apart (λ (r : PulleyInst). r.name) (PulleyBreaks names) [] (t.ops ++ t.extended_ops) found)

-- tables with a row that isn't supported aren't supported
pub unsupported_apart : (t : Tables) (found : Unsupported) → IsFirstUnsupported t (Some found) → AreSupported t → ⊥
unsupported_apart t found =
    of_two_apart (IsFirstFormat t.formats) (FirstOf (IsFirstInstruction t.formats t.instructions) (IsFirstMachineRow t)) found (row_apart (λ (f : InstructionFormat). f.name) FormatBreaks [] t.formats found)
    (of_two_apart (IsFirstInstruction t.formats t.instructions) (IsFirstMachineRow t) found
    (row_apart (λ (i : Instruction). i.name) (InstructionBreaks t.formats) [] t.instructions found) (machine_apart t found))

-- ---- one row is the first

machine_once : (t : Tables) → FindsOne (IsFirstMachineRow t)
machine_once t =
    let names : List (List ℕ) = own_names t.instructions in
    one_of_two (IsFirstInst names t.x64) (IsFirstOperation names t.ops t.extended_ops) (one_row (λ (i : Inst). i.name) (AssemblerBreaks names) [] t.x64)
    (one_row (λ (r : PulleyInst). r.name) (PulleyBreaks names) [] (t.ops ++ t.extended_ops))

-- no tables have two first rows, nor one and none
pub first_once : (t : Tables) → FindsOne (IsFirstUnsupported t)
first_once t =
    one_of_two (IsFirstFormat t.formats) (FirstOf (IsFirstInstruction t.formats t.instructions) (IsFirstMachineRow t)) (one_row (λ (f : InstructionFormat). f.name) FormatBreaks [] t.formats)
    (one_of_two (IsFirstInstruction t.formats t.instructions) (IsFirstMachineRow t) (one_row (λ (i : Instruction). i.name) (InstructionBreaks t.formats) [] t.instructions) (machine_once t))

-- so what a check tells is that row
pub first_told : (t : Tables) (result : Result (Unit {0}) TableFail) (first : Option Unsupported) → Checks (IsFirstUnsupported t) result
    → IsFirstUnsupported t first → Answers first result
first_told t (Ok done) first h k = first_once t first None k h
first_told t (Err (fail.Unsupported found)) first h k = first_once t first (Some found) k h
first_told t (Err fail.Memory) first h k = tt

-- ---- two searches, one after the other

-- the first one found a row
pub found_first : (First Second : Option Unsupported → Type 0) (found : Found) → is_some found ≡ true → First (found_row found) → FirstOf First Second (found_row found)
found_first First Second None e h = absurd cc
found_first First Second (Some f) e h = inl h

-- it found none, and what the second one found is the first
pub found_second : (First Second : Option Unsupported → Type 0) (none found : Found) → is_some none ≡ false → First (found_row none) → Second (found_row found)
    → FirstOf First Second (found_row found)
found_second First Second None None e h k = (h, k)
found_second First Second None (Some f) e h k = inr (h, k)
found_second First Second (Some g) found e h k = absurd cc
