-- The shapes that an assembler's instructions break, and the first of them that isn't supported.
use Rattle.std.specs.Prelude.{ℕ, List, [], Option}
use Rattle.isle_meta.specs.declared.errors.Unsupported.{Unsupported}
use Rattle.isle_meta.specs.declared.machine.Inst.{Inst}
use Rattle.isle_meta.specs.declared.shapes.Shape.{Shape}
use Rattle.isle_meta.specs.declared.shapes.Shape.TheVariants.{BadName, RepeatedName, ReservedName, TyOperand, FormatIndex, ValueCount, BlockCount, RawBlockCount, ImmCount, ImmType, ImmShape, NoVarargs, NoTypevar, WrittenImm, AlignedMem, WrittenOperands, ImplicitOperand, AlternateWithoutXmm, BinaryOperands, Results, FieldType}
use Rattle.isle_meta.specs.FirstRow.{IsFirstRow}
use Rattle.isle_assembler_rows.specs.AssemblerRow as row

-- the shapes that an instruction breaks, after terms of other rows and the instructions before it; its terms begin with `x64_`, so none is reserved
abbrev pub AssemblerBreaks : (earlier : List (List ℕ)) → (before : List Inst) → Inst → Shape → Type 0
AssemblerBreaks earlier before i BadName = row.BadName i
AssemblerBreaks earlier before i RepeatedName = row.RepeatedName earlier before i
AssemblerBreaks earlier before i ReservedName = ⊥
AssemblerBreaks earlier before i TyOperand = ⊥
AssemblerBreaks earlier before i FormatIndex = ⊥
AssemblerBreaks earlier before i ValueCount = ⊥
AssemblerBreaks earlier before i BlockCount = ⊥
AssemblerBreaks earlier before i RawBlockCount = ⊥
AssemblerBreaks earlier before i ImmCount = ⊥
AssemblerBreaks earlier before i ImmType = ⊥
AssemblerBreaks earlier before i ImmShape = ⊥
AssemblerBreaks earlier before i NoVarargs = ⊥
AssemblerBreaks earlier before i NoTypevar = ⊥
AssemblerBreaks earlier before i WrittenImm = row.Taken i (row.has_written_imm i)
AssemblerBreaks earlier before i AlignedMem = row.Taken i (row.has_aligned_mem i)
AssemblerBreaks earlier before i WrittenOperands = row.Taken i (row.has_no_constructor i)
AssemblerBreaks earlier before i ImplicitOperand = row.Taken i (row.has_implicit_operand i)
AssemblerBreaks earlier before i AlternateWithoutXmm = row.Taken i (row.has_alternate_without_xmm i)
AssemblerBreaks earlier before i BinaryOperands = ⊥
AssemblerBreaks earlier before i Results = ⊥
AssemblerBreaks earlier before i FieldType = ⊥

-- the first instruction that isn't supported after terms of these names, with the first shape that it breaks, or that all are
abbrev pub IsFirstInst : (earlier : List (List ℕ)) → List Inst → Option Unsupported → Type 0
IsFirstInst earlier is found = IsFirstRow (λ (i : Inst). i.name) (AssemblerBreaks earlier) [] is found
