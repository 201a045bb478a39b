-- Which tables are plain: those of which each file can be spelt, and no row of which is long.
use Rattle.std.specs.Prelude.{◌≡◌, ◌≤◌, length, false}
use Rattle.std.specs.List.{AllByRecursion}
use Rattle.isle_meta.specs.declared.clif.Instruction.{Instruction}
use Rattle.isle_meta.specs.declared.clif.InstructionFormat.{InstructionFormat}
use Rattle.isle_meta.specs.declared.tables.Tables.{Tables}
use Rattle.isle_meta.specs.FormatRow.{field_names}
use Rattle.isle_prelude.specs.ClifFiles.{opt_defs, lower_defs}
use Rattle.isle_writing.specs.Spelt.{declare_flag}

-- a format has at most 200 value operands, and at most 200 fields, immediates among them
pub record IsShortFormat (f : InstructionFormat) : Type 0 where
  pub values : f.num_value_operands ≤ 200
  pub fields : length (field_names f) ≤ 200

-- an instruction has at most 200 operands
abbrev pub IsShortInstruction : Instruction → Type 0
IsShortInstruction i = length i.operands_in ≤ 200

-- no instruction that a file declares is named as a flag of declarations, and no row is long
pub record ArePlain (t : Tables) : Type 0 where
  pub opt_spelt : declare_flag (opt_defs t) ≡ false
  pub lower_spelt : declare_flag (lower_defs t) ≡ false
  pub formats : AllByRecursion IsShortFormat t.formats
  pub instructions : AllByRecursion IsShortInstruction t.instructions
