-- What isn't supported of an assembler's instruction: a question for each shape that it may break.
use Rattle.std.specs.Prelude.{ℕ, List, [], ◌∷◌, ◌++◌, length, Bool, true, false, ◌&&◌, ◌||◌, not, nat_lt, filter, Option, Some, None, is_some, IsTrue}
use Rattle.std.specs.List.{AllByRecursion, flat_map, list_any}
use Rattle.isle_assembler_rows.specs.declared.constructor.Constructor.{Constructor}
use Rattle.isle_meta.specs.declared.machine.Alternate.{Alternate}
use Rattle.isle_meta.specs.declared.machine.Inst.{Inst}
use Rattle.isle_meta.specs.declared.machine.Operand.{Operand}
use Rattle.isle_meta.specs.TableNames.{repeats, repeats_after}
use Rattle.isle_spelling.specs.Identifier.{IsIdentifier}
use Rattle.isle_assembler_rows.specs.Constructors.{constructors, is_in_memory}
use Rattle.isle_assembler_rows.specs.Operands.{is_imm, is_mem, is_of_xmm, is_raw, is_read, is_reg_mem, is_written, locations, trap_names}
use Rattle.isle_assembler_rows.specs.TermNames.{is_left_out, row_terms}

-- ---- names

-- the names of an alternate
abbrev pub alternate_names : Option Alternate → List (List ℕ)
alternate_names None = []
alternate_names (Some a) = a.name ∷ a.feature ∷ []

-- the names of a row: its own, its operands' and its alternate's; its mnemonic is none, since nothing of it is written
abbrev pub row_names : Inst → List (List ℕ)
row_names i = i.name ∷ (locations i.operands ++ alternate_names i.alternate)

-- the names of its operands; a trap's code is one
abbrev pub operand_names : Inst → List (List ℕ)
operand_names i = locations i.operands ++ trap_names i.has_trap

-- the terms of instructions
abbrev pub all_terms : List Inst → List (List ℕ)
all_terms is = flat_map row_terms is

-- one of its names is no identifier
abbrev pub BadName : Inst → Type 0
BadName i = AllByRecursion IsIdentifier (row_names i) → ⊥

-- two of its operands have one name, or one of its terms has the name of an earlier one: of other rows, or of an instruction before it
abbrev pub RepeatedName : (earlier : List (List ℕ)) → (before : List Inst) → Inst → Type 0
RepeatedName earlier before i = IsTrue (repeats (operand_names i) || repeats_after (earlier ++ all_terms before) (row_terms i))

-- ---- operands

-- an immediate that is written
abbrev pub is_written_imm : Operand → Bool
is_written_imm o = is_written o.mutability && is_imm o.kind

-- a place in memory that must be aligned
abbrev pub is_aligned_mem : Operand → Bool
is_aligned_mem o = o.align && is_mem o.kind

-- whether there is none
abbrev pub is_none_of : List Constructor → Bool
is_none_of [] = true
is_none_of (c ∷ cs) = false

-- an operand that the raw term takes though it isn't read
abbrev pub is_hidden : Operand → Bool
is_hidden o = is_raw o && not (is_read o.mutability)

-- those operands
abbrev pub hidden_operands : Inst → List Operand
hidden_operands i = filter is_hidden i.operands

-- one of them can't be a register
abbrev pub is_no_reg_mem : Operand → Bool
is_no_reg_mem o = not (is_reg_mem o.kind)

-- whether there are more of them than a new register can stand for
abbrev pub hides_too_much : List Operand → Bool
hides_too_much os = nat_lt 1 (length os) || list_any is_no_reg_mem os

-- whether one of the constructors leaves no result in memory
abbrev pub has_value : List Constructor → Bool
has_value cs = list_any (λ (c : Constructor). not (is_in_memory c)) cs

-- an immediate of it is written
abbrev pub has_written_imm : Inst → Bool
has_written_imm i = list_any is_written_imm i.operands

-- a place in memory of it must be aligned
abbrev pub has_aligned_mem : Inst → Bool
has_aligned_mem i = list_any is_aligned_mem i.operands

-- there is no constructor for what it writes
abbrev pub has_no_constructor : Inst → Bool
has_no_constructor i = is_none_of (constructors i)

-- a constructor would have to make up more than a register
abbrev pub has_implicit_operand : Inst → Bool
has_implicit_operand i = has_value (constructors i) && hides_too_much (hidden_operands i)

-- it has an alternate, and no operand is of the class of vector registers
abbrev pub has_alternate_without_xmm : Inst → Bool
has_alternate_without_xmm i = is_some i.alternate && not (list_any (λ (o : Operand). is_of_xmm o.kind) i.operands)

-- it isn't left out, and this is so of it
abbrev pub Taken : Inst → Bool → Type 0
Taken i is_so = IsTrue (not (is_left_out i) && is_so)
