-- The constructors of an instruction: what its terms give, by the operands that it writes.
use Rattle.std.specs.Prelude.{ℕ, List, [], ◌∷◌, ◌++◌, Bool, true, false, ◌&&◌, ◌||◌, not, if◌then◌else◌, codes}
use Rattle.isle_assembler_rows.specs.declared.constructor.Constructor.{Constructor}
use Rattle.isle_assembler_rows.specs.declared.constructor.Constructor.TheVariants.{RetMemorySideEffect, NoReturnSideEffect, RetGpr, RetXmm, RetValueRegs, ProducesFlagsSideEffect, ConsumesFlagsReturnsGpr}
use Rattle.isle_meta.specs.declared.machine.Inst.{Inst}
use Rattle.isle_meta.specs.declared.machine.Operand.{Operand}
use Rattle.isle_meta.specs.declared.machine.OperandKind.{OperandKind}
use Rattle.isle_meta.specs.declared.machine.OperandKind.TheVariants.{Imm, Reg, FixedReg, RegMem, Mem}
use Rattle.isle_meta.specs.declared.machine.RegClass.{RegClass}
use Rattle.isle_meta.specs.declared.machine.RegClass.TheVariants.{Gpr, Xmm}
use Rattle.isle_assembler_rows.specs.Operands.{is_fixed, is_gpr_register, is_mem, is_register, may_be_memory, written_operands}

-- ---- by the operands that are written

-- of no such operand, by whether flags are written
abbrev pub of_none : (writes_flags : Bool) → List Constructor
of_none true = ProducesFlagsSideEffect ∷ []
of_none false = NoReturnSideEffect ∷ []

-- of a register, by whether flags are read: a vector register goes with none
abbrev pub of_register : (reads_flags : Bool) → RegClass → List Constructor
of_register false Gpr = RetGpr ∷ []
of_register true Gpr = ConsumesFlagsReturnsGpr ∷ []
of_register false Xmm = RetXmm ∷ []
of_register true Xmm = []

-- of a place in memory
abbrev pub of_memory : (reads_flags : Bool) → List Constructor
of_memory false = RetMemorySideEffect ∷ []
of_memory true = []

-- of one operand; what may lie in a register or in memory has those of both
abbrev pub of_one : (reads_flags : Bool) → OperandKind → List Constructor
of_one reads Imm = []
of_one reads (Reg class) = of_register reads class
of_one reads (FixedReg class) = of_register reads class
of_one reads (RegMem class) = of_register reads class ++ of_memory reads
of_one reads Mem = of_memory reads

-- a general register that isn't fixed
abbrev pub is_free_gpr : OperandKind → Bool
is_free_gpr kind = is_gpr_register kind && not (is_fixed kind)

-- one general register: before a place in memory and not fixed, or after what may be a place in memory
abbrev pub is_gpr_beside_memory : OperandKind → OperandKind → Bool
is_gpr_beside_memory first second = (is_free_gpr first && is_mem second) || (may_be_memory first && is_gpr_register second)

-- of two operands: two registers, or one beside memory
abbrev pub of_two : OperandKind → OperandKind → List Constructor
of_two first second =
    if is_register first && is_register second then RetValueRegs ∷ [] else (if is_gpr_beside_memory first second then RetGpr ∷ [] else [])

-- of three operands: two fixed registers and a place in memory
abbrev pub of_three : OperandKind → OperandKind → OperandKind → List Constructor
of_three first second third = if is_fixed first && is_fixed second && is_mem third then RetValueRegs ∷ [] else []

-- those of an instruction that writes these operands, in order; none if there is no such constructor
abbrev pub of_written : (reads_flags writes_flags : Bool) → List Operand → List Constructor
of_written reads writes [] = of_none writes
of_written reads writes (a ∷ []) = of_one reads a.kind
of_written reads writes (a ∷ b ∷ []) = if reads then [] else of_two a.kind b.kind
of_written reads writes (a ∷ b ∷ c ∷ []) = if reads then [] else of_three a.kind b.kind c.kind
of_written reads writes (a ∷ b ∷ c ∷ d ∷ more) = []

-- the constructors of an instruction
abbrev pub constructors : Inst → List Constructor
constructors i = of_written i.reads_flags i.writes_flags (written_operands i)

-- ---- what a constructor is

-- whether it leaves its result in memory
abbrev pub is_in_memory : Constructor → Bool
is_in_memory RetMemorySideEffect = true
is_in_memory NoReturnSideEffect = false
is_in_memory RetGpr = false
is_in_memory RetXmm = false
is_in_memory RetValueRegs = false
is_in_memory ProducesFlagsSideEffect = false
is_in_memory ConsumesFlagsReturnsGpr = false

-- what ends the name of its term
abbrev pub suffix : Constructor → List ℕ
suffix c = if is_in_memory c then codes "_mem" else []

-- the type of its term
abbrev pub result_type : Constructor → List ℕ
result_type RetMemorySideEffect = codes "SideEffectNoResult"
result_type NoReturnSideEffect = codes "SideEffectNoResult"
result_type RetGpr = codes "Gpr"
result_type RetXmm = codes "Xmm"
result_type RetValueRegs = codes "ValueRegs"
result_type ProducesFlagsSideEffect = codes "ProducesFlags"
result_type ConsumesFlagsReturnsGpr = codes "ConsumesFlags"

-- the term that turns what the raw term gives into that type
abbrev pub conversion : Constructor → List ℕ
conversion RetMemorySideEffect = codes "defer_side_effect"
conversion NoReturnSideEffect = codes "defer_side_effect"
conversion RetGpr = codes "emit_ret_gpr"
conversion RetXmm = codes "emit_ret_xmm"
conversion RetValueRegs = codes "emit_ret_value_regs"
conversion ProducesFlagsSideEffect = codes "asm_produce_flags_side_effect"
conversion ConsumesFlagsReturnsGpr = codes "asm_consumes_flags_returns_gpr"

-- the type of a parameter that is read and written, and may lie in a register or in memory; the two constructors that write nothing have none
abbrev pub place_type : Constructor → List ℕ
place_type RetMemorySideEffect = codes "SyntheticAmode"
place_type NoReturnSideEffect = codes "Gpr"
place_type RetGpr = codes "Gpr"
place_type RetXmm = codes "Xmm"
place_type RetValueRegs = codes "ValueRegs"
place_type ProducesFlagsSideEffect = codes "Gpr"
place_type ConsumesFlagsReturnsGpr = codes "Gpr"

-- the term that makes a register for an operand that is only written
abbrev pub temporary : Constructor → List ℕ
temporary RetMemorySideEffect = codes "temp_writable_gpr"
temporary NoReturnSideEffect = codes "temp_writable_gpr"
temporary RetGpr = codes "temp_writable_gpr"
temporary RetXmm = codes "temp_writable_xmm"
temporary RetValueRegs = codes "temp_writable_gpr"
temporary ProducesFlagsSideEffect = codes "temp_writable_gpr"
temporary ConsumesFlagsReturnsGpr = codes "temp_writable_gpr"
