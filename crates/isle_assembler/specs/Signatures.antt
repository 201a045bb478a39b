-- The parameters of an instruction's terms, and their types in rules.
use Rattle.std.specs.Prelude.{ℕ, List, [], ◌∷◌, ◌++◌, Bool, true, false, ◌&&◌, ◌||◌, map, filter, if◌then◌else◌, codes}
use Rattle.isle_assembler_rows.specs.declared.constructor.Constructor.{Constructor}
use Rattle.isle_assembler.specs.declared.signature.Signature.{Signature}
use Rattle.isle_assembler.specs.declared.signature.Signature.TheVariants.{Raw, Made, Unaligned}
use Rattle.isle_meta.specs.declared.machine.Inst.{Inst}
use Rattle.isle_meta.specs.declared.machine.Operand.{Operand}
use Rattle.isle_meta.specs.declared.machine.OperandKind.{OperandKind}
use Rattle.isle_meta.specs.declared.machine.OperandKind.TheVariants.{Imm, Reg, FixedReg, RegMem, Mem}
use Rattle.isle_meta.specs.declared.machine.RegClass.{RegClass}
use Rattle.isle_meta.specs.declared.machine.RegClass.TheVariants.{Gpr, Xmm}
use Rattle.isle_printer.specs.Number.{numeral}
use Rattle.isle_assembler_rows.specs.Constructors.{is_in_memory, place_type}
use Rattle.isle_assembler_rows.specs.Operands.{is_raw, is_read, is_reg_mem, is_written, locations, trap_names}

-- ---- types of operands

-- the type of a class of registers
abbrev pub class_name : RegClass → List ℕ
class_name Gpr = codes "Gpr"
class_name Xmm = codes "Xmm"

-- how many bits an operand has
abbrev pub bits : Operand → List ℕ
bits o = numeral 10 o.bits

-- the type of an immediate, by its sign
abbrev pub imm_type : Operand → List ℕ
imm_type o = (if o.sign_extended then codes "i" else codes "u") ++ bits o

-- what says that a place in memory must be aligned, if that is kept
abbrev pub alignment : (keeps : Bool) → Operand → List ℕ
alignment keeps o = if keeps && o.align then codes "Aligned" else []

-- the type of a register or a place in memory
abbrev pub reg_mem_type : (keeps : Bool) → RegClass → Operand → List ℕ
reg_mem_type keeps class o = class_name class ++ (codes "Mem" ++ (alignment keeps o ++ bits o))

-- the type of an operand that may lie so
abbrev pub type_by : OperandKind → (keeps : Bool) → Operand → List ℕ
type_by Imm keeps o = imm_type o
type_by (Reg class) keeps o = class_name class
type_by (FixedReg class) keeps o = class_name class
type_by (RegMem class) keeps o = reg_mem_type keeps class o
type_by Mem keeps o = codes "SyntheticAmode"

-- the type of an operand as the raw term takes it; without what says that it must be aligned, unless that is kept
abbrev pub operand_type : (keeps : Bool) → Operand → List ℕ
operand_type keeps o = type_by o.kind keeps o

-- ---- parameters of a constructor's term

-- whether it takes the operand: that of a result in memory takes what the raw term takes, others only what is read
abbrev pub is_param : Constructor → Operand → Bool
is_param c o = is_raw o && (is_in_memory c || is_read o.mutability)

-- an operand that is written, and may lie in a register or in memory
abbrev pub is_written_reg_mem : Operand → Bool
is_written_reg_mem o = is_written o.mutability && is_reg_mem o.kind

-- the type of a parameter
abbrev pub param_type : Constructor → (keeps : Bool) → Operand → List ℕ
param_type c keeps o = if is_written_reg_mem o then place_type c else operand_type keeps o

-- ---- parameters of a term: the raw one, that of a constructor, and one of a constructor that takes places which aren't aligned

-- whether it takes the operand
abbrev pub takes : Signature → Operand → Bool
takes Raw o = is_raw o
takes (Made c) o = is_param c o
takes (Unaligned c) o = is_param c o

-- the type that it takes it with
abbrev pub type_in : Signature → Operand → List ℕ
type_in Raw o = operand_type true o
type_in (Made c) o = param_type c true o
type_in (Unaligned c) o = param_type c false o

-- the type of the trap's code, of an instruction that may trap
abbrev pub trap_types : (has_trap : Bool) → List (List ℕ)
trap_types true = codes "TrapCode" ∷ []
trap_types false = []

-- the operands that a term takes
abbrev pub taken : Signature → Inst → List Operand
taken s i = filter (takes s) i.operands

-- the names of its parameters
abbrev pub param_names : Signature → Inst → List (List ℕ)
param_names s i = locations (taken s i) ++ trap_names i.has_trap

-- their types
abbrev pub param_types : Signature → Inst → List (List ℕ)
param_types s i = map (type_in s) (taken s i) ++ trap_types i.has_trap
