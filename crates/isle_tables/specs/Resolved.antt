-- The tables of items: each format by its place.
use Rattle.std.specs.Prelude.{ℕ, ◌+◌, List, [], ◌∷◌, ◌++◌, if◌then◌else◌, Option, Some, None, option_map, bytes_eq}
use Rattle.isle_meta.specs.declared.clif.InstructionFormat.{InstructionFormat}
use Rattle.isle_meta.specs.declared.clif.Instruction.{Instruction}
use Rattle.isle_meta.specs.declared.machine.Inst.{Inst}
use Rattle.isle_meta.specs.declared.pulley.PulleyInst.{PulleyInst}
use Rattle.isle_meta.specs.declared.tables.Tables.{Tables}
use Rattle.isle_tables.specs.declared.item.InstRow.{InstRow}
use Rattle.isle_tables.specs.declared.item.Item.{Item}
use Rattle.isle_tables.specs.declared.item.Item.TheVariants as item

-- ---- items of one kind

-- what each of these gives, in order
abbrev pub gathered : {A B : Type 0} → (A → List B) → List A → List B
gathered f [] = []
gathered f (x ∷ xs) = f x ++ gathered f xs

-- a format
abbrev pub format_in : Item → List InstructionFormat
format_in (item.Format f) = f ∷ []
format_in (item.Inst i) = []
format_in (item.X64 i) = []
format_in (item.Op i) = []
format_in (item.ExtOp i) = []

-- an instruction
abbrev pub row_in : Item → List InstRow
row_in (item.Format f) = []
row_in (item.Inst i) = i ∷ []
row_in (item.X64 i) = []
row_in (item.Op i) = []
row_in (item.ExtOp i) = []

-- an instruction of the assembler
abbrev pub x64_in : Item → List Inst
x64_in (item.Format f) = []
x64_in (item.Inst i) = []
x64_in (item.X64 i) = i ∷ []
x64_in (item.Op i) = []
x64_in (item.ExtOp i) = []

-- an operation of the interpreter
abbrev pub op_in : Item → List PulleyInst
op_in (item.Format f) = []
op_in (item.Inst i) = []
op_in (item.X64 i) = []
op_in (item.Op i) = i ∷ []
op_in (item.ExtOp i) = []

-- an extended operation of the interpreter
abbrev pub ext_op_in : Item → List PulleyInst
ext_op_in (item.Format f) = []
ext_op_in (item.Inst i) = []
ext_op_in (item.X64 i) = []
ext_op_in (item.Op i) = []
ext_op_in (item.ExtOp i) = i ∷ []

-- ---- formats by their places

-- the place of the first format of that name
abbrev pub first_place : List InstructionFormat → List ℕ → Option ℕ
first_place [] name = None
first_place (f ∷ fs) name = if bytes_eq name f.name then Some 0 else option_map (λ (n : ℕ). n + 1) (first_place fs name)

-- an instruction whose format has that place
abbrev pub at_format : InstRow → ℕ → Instruction
at_format row place = record {
  name = row.name;
  camel_name = row.camel_name;
  format = place;
  operands_in = row.operands_in;
  value_results = row.value_results;
  can_trap = row.can_trap;
  other_side_effects = row.other_side_effects;
}

-- one instruction more, if both are there
abbrev pub with_row : InstRow → Option ℕ → Option (List Instruction) → Option (List Instruction)
with_row row None others = None
with_row row (Some place) None = None
with_row row (Some place) (Some others) = Some (at_format row place ∷ others)

-- the instructions of rows, if each names one of the formats
abbrev pub resolved : List InstructionFormat → List InstRow → Option (List Instruction)
resolved fs [] = Some []
resolved fs (row ∷ rows) = with_row row (first_place fs row.format) (resolved fs rows)

-- where the name begins if it has no place, or else this
abbrev pub lost_at : InstRow → Option ℕ → Option ℕ → Option ℕ
lost_at row None later = Some row.format_at
lost_at row (Some place) later = later

-- where the first name begins that is none of the formats'
abbrev pub first_lost : List InstructionFormat → List InstRow → Option ℕ
first_lost fs [] = None
first_lost fs (row ∷ rows) = lost_at row (first_place fs row.format) (first_lost fs rows)

-- ---- tables

-- the tables of items with these instructions: items of one kind in their order
abbrev pub tables_with : List Item → List Instruction → Tables
tables_with items is = record {
  formats = gathered format_in items;
  instructions = is;
  x64 = gathered x64_in items;
  ops = gathered op_in items;
  extended_ops = gathered ext_op_in items;
}

-- the tables of items, if each instruction names one of the formats
abbrev pub tables_of : List Item → Option Tables
tables_of items = option_map (tables_with items) (resolved (gathered format_in items) (gathered row_in items))

-- where the first FORMAT begins that names no format
abbrev pub lost_of : List Item → Option ℕ
lost_of items = first_lost (gathered format_in items) (gathered row_in items)
