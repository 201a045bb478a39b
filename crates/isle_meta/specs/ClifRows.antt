-- The shapes that formats and instructions break, and the first that isn't supported.
use Rattle.std.specs.Prelude.{List, [], Option}
use Rattle.isle_meta.specs.declared.clif.Instruction.{Instruction}
use Rattle.isle_meta.specs.declared.clif.InstructionFormat.{InstructionFormat}
use Rattle.isle_meta.specs.declared.errors.Unsupported.{Unsupported}
use Rattle.isle_meta.specs.declared.shapes.Shape.{Shape}
use Rattle.isle_meta.specs.declared.shapes.Shape.TheVariants.{BadName, RepeatedName, ReservedName, TyOperand, FormatIndex, ValueCount, BlockCount, RawBlockCount, ImmCount, ImmType, ImmShape, NoVarargs, NoTypevar, WrittenImm, AlignedMem, WrittenOperands, ImplicitOperand, AlternateWithoutXmm, BinaryOperands, Results, FieldType}
use Rattle.isle_meta.specs.FirstRow.{IsFirstRow}
use Rattle.isle_meta.specs.FormatRow as format
use Rattle.isle_meta.specs.InstructionRow as instruction

-- the shapes that a format breaks
abbrev pub FormatBreaks : (before : List InstructionFormat) → InstructionFormat → Shape → Type 0
FormatBreaks before f BadName = format.BadName f
FormatBreaks before f RepeatedName = format.RepeatedName before f
FormatBreaks before f ReservedName = format.ReservedName f
FormatBreaks before f TyOperand = ⊥
FormatBreaks before f FormatIndex = ⊥
FormatBreaks before f ValueCount = ⊥
FormatBreaks before f BlockCount = format.BlockCount f
FormatBreaks before f RawBlockCount = format.RawBlockCount f
FormatBreaks before f ImmCount = ⊥
FormatBreaks before f ImmType = ⊥
FormatBreaks before f ImmShape = format.ImmShape before f
FormatBreaks before f NoVarargs = ⊥
FormatBreaks before f NoTypevar = format.NoTypevar f
FormatBreaks before f WrittenImm = ⊥
FormatBreaks before f AlignedMem = ⊥
FormatBreaks before f WrittenOperands = ⊥
FormatBreaks before f ImplicitOperand = ⊥
FormatBreaks before f AlternateWithoutXmm = ⊥
FormatBreaks before f BinaryOperands = ⊥
FormatBreaks before f Results = ⊥
FormatBreaks before f FieldType = ⊥

-- the shapes that an instruction breaks; without its format none that compares the two
abbrev pub InstructionBreaks : (formats : List InstructionFormat) → (before : List Instruction) → Instruction → Shape → Type 0
InstructionBreaks formats before i BadName = instruction.BadName i
InstructionBreaks formats before i RepeatedName = instruction.RepeatedName before i
InstructionBreaks formats before i ReservedName = instruction.ReservedName i
InstructionBreaks formats before i TyOperand = instruction.OfFormat formats i (λ f. instruction.TyOperand f i)
InstructionBreaks formats before i FormatIndex = instruction.FormatIndex formats i
InstructionBreaks formats before i ValueCount = instruction.OfFormat formats i (λ f. instruction.ValueCount f i)
InstructionBreaks formats before i BlockCount = instruction.OfFormat formats i (λ f. instruction.BlockCount f i)
InstructionBreaks formats before i RawBlockCount = instruction.OfFormat formats i (λ f. instruction.RawBlockCount f i)
InstructionBreaks formats before i ImmCount = instruction.OfFormat formats i (λ f. instruction.ImmCount f i)
InstructionBreaks formats before i ImmType = instruction.OfFormat formats i (λ f. instruction.ImmType f i)
InstructionBreaks formats before i ImmShape = ⊥
InstructionBreaks formats before i NoVarargs = instruction.OfFormat formats i (λ f. instruction.NoVarargs f i)
InstructionBreaks formats before i NoTypevar = ⊥
InstructionBreaks formats before i WrittenImm = ⊥
InstructionBreaks formats before i AlignedMem = ⊥
InstructionBreaks formats before i WrittenOperands = ⊥
InstructionBreaks formats before i ImplicitOperand = ⊥
InstructionBreaks formats before i AlternateWithoutXmm = ⊥
InstructionBreaks formats before i BinaryOperands = ⊥
InstructionBreaks formats before i Results = ⊥
InstructionBreaks formats before i FieldType = ⊥

-- ---- the first

-- the first format that isn't supported, or that all are
abbrev pub IsFirstFormat : List InstructionFormat → Option Unsupported → Type 0
IsFirstFormat fs found = IsFirstRow (λ (f : InstructionFormat). f.name) FormatBreaks [] fs found

-- the first instruction that isn't supported beside these formats, or that all are
abbrev pub IsFirstInstruction : (formats : List InstructionFormat) → List Instruction → Option Unsupported → Type 0
IsFirstInstruction formats is found = IsFirstRow (λ (i : Instruction). i.name) (InstructionBreaks formats) [] is found
