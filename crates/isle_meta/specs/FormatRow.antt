-- What isn't supported of a format: a predicate for each shape that a format may break.
use Rattle.std.specs.Prelude.{◌≡◌, ℕ, ◌<◌, List, ◌∷◌, ◌++◌, false, ◌||◌, ◌==◌, nat_lt, if◌then◌else◌, Option, Some, None, map, flat_map, IsTrue, codes}
use Rattle.std.specs.List.{AllByRecursion}
use Rattle.std.specs.Option.{option_to_list}
use Rattle.isle_spelling.specs.Identifier.{IsIdentifier}
use Rattle.isle_meta.specs.declared.clif.ImmField.{ImmField}
use Rattle.isle_meta.specs.declared.clif.InstructionFormat.{InstructionFormat}
use Rattle.isle_meta.specs.Immediates.{imm_names, type_of, are_misshapen}
use Rattle.isle_meta.specs.TableNames.{is_among, repeats, IsImmediateType}

-- ---- fields and names

-- the field of values: a list, one value, or an array of several
abbrev pub values_field : InstructionFormat → Option (List ℕ)
values_field f = if f.has_value_list || nat_lt 1 f.num_value_operands then Some (codes "args") else (if f.num_value_operands == 1 then Some (codes "arg") else None)

-- the field of blocks: one, or an array of several
abbrev pub blocks_field : InstructionFormat → Option (List ℕ)
blocks_field f = if nat_lt 1 f.num_block_operands then Some (codes "blocks") else (if f.num_block_operands == 1 then Some (codes "destination") else None)

-- the field of one raw block
abbrev pub raw_block_field : InstructionFormat → Option (List ℕ)
raw_block_field f = if f.num_raw_block_operands == 1 then Some (codes "block") else None

-- the fields of a format's data that are no immediates
abbrev pub fixed_fields : InstructionFormat → List (List ℕ)
fixed_fields f = codes "opcode" ∷ (option_to_list (values_field f) ++ option_to_list (blocks_field f) ++ option_to_list (raw_block_field f))

-- all fields of a format's data, in order
abbrev pub field_names : InstructionFormat → List (List ℕ)
field_names f = fixed_fields f ++ map (λ (i : ImmField). i.member) f.imm_fields

-- the names of a format: its own, and those of its immediates
abbrev pub format_names : InstructionFormat → List (List ℕ)
format_names f = f.name ∷ flat_map imm_names f.imm_fields

-- the names of formats
abbrev pub own_names : List InstructionFormat → List (List ℕ)
own_names fs = map (λ (f : InstructionFormat). f.name) fs

-- the immediates of formats, in order
abbrev pub all_fields : List InstructionFormat → List ImmField
all_fields fs = flat_map (λ (f : InstructionFormat). f.imm_fields) fs

-- ---- what is refused

-- one of its names is no identifier
abbrev pub BadName : InstructionFormat → Type 0
BadName f = AllByRecursion IsIdentifier (format_names f) → ⊥

-- an earlier format has its name, or two of its fields have one name
abbrev pub RepeatedName : (before : List InstructionFormat) → InstructionFormat → Type 0
RepeatedName before f = IsTrue (is_among f.name (own_names before) || repeats (field_names f))

-- the type of one of its immediates is something else's
abbrev pub ReservedName : InstructionFormat → Type 0
ReservedName f = AllByRecursion IsImmediateType (map type_of f.imm_fields) → ⊥

-- it has more than two blocks
abbrev pub BlockCount : InstructionFormat → Type 0
BlockCount f = 2 < f.num_block_operands

-- it has more than one raw block
abbrev pub RawBlockCount : InstructionFormat → Type 0
RawBlockCount f = 1 < f.num_raw_block_operands

-- the type of one of its immediates has a value twice, or other values than at an earlier field
abbrev pub ImmShape : (before : List InstructionFormat) → InstructionFormat → Type 0
ImmShape before f = IsTrue (are_misshapen (all_fields before) f.imm_fields)

-- several values, no list of them, and no operand with the controlling type
abbrev pub NoTypevar : InstructionFormat → Type 0
NoTypevar f = (f.has_value_list ≡ false) × (1 < f.num_value_operands) × (f.typevar_operand ≡ None)
