-- The operands of an assembler's instructions: which are read, which are written, and which the term of an instruction takes.
use Rattle.std.specs.Prelude.{ℕ, List, [], ◌∷◌, Bool, true, false, ◌||◌, map, filter, codes}
use denote.Ref.{Bor}
use Rattle.isle_meta.specs.declared.machine.Inst.{Inst}
use Rattle.isle_meta.specs.declared.machine.Mutability.{Mutability}
use Rattle.isle_meta.specs.declared.machine.Mutability.TheVariants.{Read, ReadWrite, Write}
use Rattle.isle_meta.specs.declared.machine.Operand.{Operand}
use Rattle.isle_meta.specs.declared.machine.OperandKind.{OperandKind}
use Rattle.isle_meta.specs.declared.machine.OperandKind.TheVariants.{Imm, Reg, FixedReg, RegMem, Mem}
use Rattle.isle_meta.specs.declared.machine.RegClass.{RegClass}
use Rattle.isle_meta.specs.declared.machine.RegClass.TheVariants.{Gpr, Xmm}

-- ---- what is done with an operand

-- whether it is read
abbrev pub is_read : Mutability → Bool
is_read Read = true
is_read ReadWrite = true
is_read Write = false

-- whether it is written
abbrev pub is_written : Mutability → Bool
is_written Read = false
is_written ReadWrite = true
is_written Write = true

-- ---- where it may lie

-- a register, fixed or not
abbrev pub is_register : OperandKind → Bool
is_register Imm = false
is_register (Reg class) = true
is_register (FixedReg class) = true
is_register (RegMem class) = false
is_register Mem = false

-- a fixed register
abbrev pub is_fixed : OperandKind → Bool
is_fixed Imm = false
is_fixed (Reg class) = false
is_fixed (FixedReg class) = true
is_fixed (RegMem class) = false
is_fixed Mem = false

-- a register or a place in memory
abbrev pub is_reg_mem : OperandKind → Bool
is_reg_mem Imm = false
is_reg_mem (Reg class) = false
is_reg_mem (FixedReg class) = false
is_reg_mem (RegMem class) = true
is_reg_mem Mem = false

-- a place in memory and nothing else
abbrev pub is_mem : OperandKind → Bool
is_mem Imm = false
is_mem (Reg class) = false
is_mem (FixedReg class) = false
is_mem (RegMem class) = false
is_mem Mem = true

-- perhaps a place in memory
abbrev pub may_be_memory : OperandKind → Bool
may_be_memory kind = is_reg_mem kind || is_mem kind

-- an immediate
abbrev pub is_imm : OperandKind → Bool
is_imm Imm = true
is_imm (Reg class) = false
is_imm (FixedReg class) = false
is_imm (RegMem class) = false
is_imm Mem = false

-- the class of general registers
abbrev pub is_gpr : RegClass → Bool
is_gpr Gpr = true
is_gpr Xmm = false

-- the class of vector registers
abbrev pub is_xmm : RegClass → Bool
is_xmm Gpr = false
is_xmm Xmm = true

-- a general register, fixed or not
abbrev pub is_gpr_register : OperandKind → Bool
is_gpr_register Imm = false
is_gpr_register (Reg class) = is_gpr class
is_gpr_register (FixedReg class) = is_gpr class
is_gpr_register (RegMem class) = false
is_gpr_register Mem = false

-- of the class of vector registers
abbrev pub is_of_xmm : OperandKind → Bool
is_of_xmm Imm = false
is_of_xmm (Reg class) = is_xmm class
is_of_xmm (FixedReg class) = is_xmm class
is_of_xmm (RegMem class) = is_xmm class
is_of_xmm Mem = false

-- ---- the operands of an instruction

-- whether the raw term takes the operand: it is read, or may be a place in memory
abbrev pub is_raw : Operand → Bool
is_raw o = is_read o.mutability || may_be_memory o.kind

-- the parameters of the raw term
abbrev pub raw_operands : Inst → List Operand
raw_operands i = filter is_raw i.operands

-- the operands that are written
abbrev pub written_operands : Inst → List Operand
written_operands i = filter (λ (o : Operand). is_written o.mutability) i.operands

-- the places of operands, which name them
abbrev pub locations : List Operand → List (List ℕ)
locations os = map (λ (o : Operand). o.location) os

-- the name of the trap's code, of an instruction that may trap
abbrev pub trap_names : (has_trap : Bool) → List (List ℕ)
trap_names true = codes "trap" ∷ []
trap_names false = []

-- rows that are lent, in order
abbrev pub lent : List (Bor Operand) → List Operand
lent os = map (λ (o : Bor Operand). o.now) os
