-- What isn't supported of an instruction: a predicate for each shape that an instruction may break.
use Rattle.std.specs.Prelude.{◌≡◌, ◌≢◌, ℕ, ◌<◌, ◌≤◌, ◌⊎◌, List, [], ◌∷◌, length, Bool, true, false, ◌&&◌, ◌||◌, ◌==◌, not, nat_lt, Option, Some, None, IsSomeAnd, map, count_by, slice_get, IsTrue, codes}
use Rattle.std.specs.List.{AllByRecursion, filter_map}
use Rattle.std.specs.Str.{bytes_eq}
use Rattle.isle_spelling.specs.Identifier.{IsIdentifier}
use Rattle.isle_meta.specs.declared.clif.ClifOperand.{ClifOperand}
use Rattle.isle_meta.specs.declared.clif.ImmField.{ImmField}
use Rattle.isle_meta.specs.declared.clif.Instruction.{Instruction}
use Rattle.isle_meta.specs.declared.clif.InstructionFormat.{InstructionFormat}
use Rattle.isle_meta.specs.declared.clif.OperandClass.{OperandClass}
use Rattle.isle_meta.specs.declared.clif.OperandClass.TheVariants as class
use Rattle.isle_meta.specs.ShortName.{short_name}
use Rattle.isle_meta.specs.TableNames.{is_among, is_reserved_term, repeats, IsTermName}

-- ---- operands

-- a value
abbrev pub is_value : OperandClass → Bool
is_value class.Value = true
is_value class.Varargs = false
is_value class.Block = false
is_value class.RawBlock = false
is_value (class.Imm ty) = false

-- any number of values
abbrev pub is_varargs : OperandClass → Bool
is_varargs class.Value = false
is_varargs class.Varargs = true
is_varargs class.Block = false
is_varargs class.RawBlock = false
is_varargs (class.Imm ty) = false

-- a block with its arguments
abbrev pub is_block : OperandClass → Bool
is_block class.Value = false
is_block class.Varargs = false
is_block class.Block = true
is_block class.RawBlock = false
is_block (class.Imm ty) = false

-- a raw block
abbrev pub is_raw_block : OperandClass → Bool
is_raw_block class.Value = false
is_raw_block class.Varargs = false
is_raw_block class.Block = false
is_raw_block class.RawBlock = true
is_raw_block (class.Imm ty) = false

-- the type of an immediate
abbrev pub type_in : OperandClass → Option (List ℕ)
type_in class.Value = None
type_in class.Varargs = None
type_in class.Block = None
type_in class.RawBlock = None
type_in (class.Imm ty) = Some ty

-- the type of an immediate operand
abbrev pub imm_type : ClifOperand → Option (List ℕ)
imm_type o = type_in o.class

-- how many operands are of a class
abbrev pub count_of : (OperandClass → Bool) → Instruction → ℕ
count_of is i = count_by (λ (o : ClifOperand). is o.class) i.operands_in

-- the types of immediate operands, in order
abbrev pub imm_types : Instruction → List (List ℕ)
imm_types i = filter_map imm_type i.operands_in

-- at one place the short names of two types differ
abbrev pub types_differ : List (List ℕ) → List (List ℕ) → Bool
types_differ [] us = false
types_differ (t ∷ ts) [] = false
types_differ (t ∷ ts) (u ∷ us) = not (bytes_eq (short_name t) (short_name u)) || types_differ ts us

-- the names of operands, in order
abbrev pub operand_names : Instruction → List (List ℕ)
operand_names i = map (λ (o : ClifOperand). o.name) i.operands_in

-- ---- earlier ones, and the format

-- the names of instructions
abbrev pub own_names : List Instruction → List (List ℕ)
own_names is = map (λ (i : Instruction). i.name) is

-- their names in camel case
abbrev pub camel_names : List Instruction → List (List ℕ)
camel_names is = map (λ (i : Instruction). i.camel_name) is

-- the instruction's format is there, and this is so of it
abbrev pub OfFormat : List InstructionFormat → Instruction → (InstructionFormat → Type 0) → Type 0
OfFormat formats i P = IsSomeAnd (slice_get formats i.format) P

-- whether the term takes a type where code is optimized: one result, and nothing that must not be left out; a value list isn't optimized
abbrev pub takes_type_to_optimize : InstructionFormat → Instruction → Bool
takes_type_to_optimize f i = not f.has_value_list && (i.value_results == 1) && not i.can_trap && not i.other_side_effects

-- whether it takes one where code is lowered: a result, and no value list
abbrev pub takes_type_to_lower : InstructionFormat → Instruction → Bool
takes_type_to_lower f i = not f.has_value_list && nat_lt 0 i.value_results

-- ---- what is refused

-- its name can't be a term's, or its camel name or an operand's is no identifier
abbrev pub BadName : Instruction → Type 0
BadName i = IsTermName i.name × IsIdentifier i.camel_name × AllByRecursion IsIdentifier (operand_names i) → ⊥

-- an earlier instruction has its name or its camel name, or two operands have one name
abbrev pub RepeatedName : (before : List Instruction) → Instruction → Type 0
RepeatedName before i = IsTrue (is_among i.name (own_names before) || is_among i.camel_name (camel_names before) || repeats (operand_names i))

-- its term is something else's
abbrev pub ReservedName : Instruction → Type 0
ReservedName i = IsTrue (is_reserved_term i.name)

-- an operand has the name of the type that the term takes in one of the texts
abbrev pub TyOperand : InstructionFormat → Instruction → Type 0
TyOperand f i = IsTrue ((takes_type_to_optimize f i || takes_type_to_lower f i) && is_among (codes "ty") (operand_names i))

-- its format isn't there
abbrev pub FormatIndex : List InstructionFormat → Instruction → Type 0
FormatIndex formats i = length formats ≤ i.format

-- without a value list: another number of values than the format's, or any number of them
abbrev pub ValueCount : InstructionFormat → Instruction → Type 0
ValueCount f i = (f.has_value_list ≡ false) × ((count_of is_value i ≢ f.num_value_operands) ⊎ (0 < count_of is_varargs i))

-- another number of blocks than the format's
abbrev pub BlockCount : InstructionFormat → Instruction → Type 0
BlockCount f i = count_of is_block i ≢ f.num_block_operands

-- another number of raw blocks than the format's
abbrev pub RawBlockCount : InstructionFormat → Instruction → Type 0
RawBlockCount f i = count_of is_raw_block i ≢ f.num_raw_block_operands

-- another number of immediates than the format's
abbrev pub ImmCount : InstructionFormat → Instruction → Type 0
ImmCount f i = length (imm_types i) ≢ length f.imm_fields

-- an immediate's short name isn't that of the format's field
abbrev pub ImmType : InstructionFormat → Instruction → Type 0
ImmType f i = IsTrue (types_differ (imm_types i) (map (λ (field : ImmField). field.rust_type) f.imm_fields))

-- with a value list: not exactly one operand for any number of values
abbrev pub NoVarargs : InstructionFormat → Instruction → Type 0
NoVarargs f i = (f.has_value_list ≡ true) × (count_of is_varargs i ≢ 1)
