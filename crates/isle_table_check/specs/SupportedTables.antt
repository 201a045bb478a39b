-- The first row of all tables that isn't supported.
use Rattle.std.specs.Prelude.{Option, None}
use Rattle.isle_assembler_rows.specs.AssemblerRows.{IsFirstInst}
use Rattle.isle_meta.specs.ClifRows.{IsFirstFormat, IsFirstInstruction}
use Rattle.isle_meta.specs.FirstRow.{FirstOf}
use Rattle.isle_meta.specs.InstructionRow.{own_names}
use Rattle.isle_meta.specs.declared.errors.Unsupported.{Unsupported}
use Rattle.isle_meta.specs.declared.tables.Tables.{Tables}
use Rattle.isle_pulley_rows.specs.PulleyRows.{IsFirstOperation}

-- the first machine's row, if no instruction breaks a shape: of the assembler, then of the interpreter. Terms of instructions, which are named as
-- they are, come before those of both; a term of the one never has the name of one of the other
abbrev pub IsFirstMachineRow : Tables → Option Unsupported → Type 0
IsFirstMachineRow t = FirstOf (IsFirstInst (own_names t.instructions) t.x64) (IsFirstOperation (own_names t.instructions) t.ops t.extended_ops)

-- the first row: of formats, then of instructions, then of machines
abbrev pub IsFirstUnsupported : Tables → Option Unsupported → Type 0
IsFirstUnsupported t = FirstOf (IsFirstFormat t.formats) (FirstOf (IsFirstInstruction t.formats t.instructions) (IsFirstMachineRow t))

-- each row of the tables is supported
abbrev pub AreSupported : Tables → Type 0
AreSupported t = IsFirstUnsupported t None
