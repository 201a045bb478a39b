-- What a method of the macro gives, by the operands that its instruction writes.
use Rattle.std.specs.Prelude.{ℕ, List, [], ◌∷◌, ◌++◌, filter, codes}
use Rattle.isle_meta.specs.declared.machine.Inst.{Inst}
use Rattle.isle_meta.specs.declared.machine.Mutability.{Mutability}
use Rattle.isle_meta.specs.declared.machine.Mutability.TheVariants.{Read, ReadWrite, Write}
use Rattle.isle_meta.specs.declared.machine.Operand.{Operand}
use Rattle.isle_meta.specs.declared.machine.OperandKind.{OperandKind}
use Rattle.isle_meta.specs.declared.machine.OperandKind.TheVariants.{Imm, Reg, FixedReg, RegMem, Mem}
use Rattle.isle_meta.specs.declared.machine.RegClass.{RegClass}
use Rattle.isle_meta.specs.declared.machine.RegClass.TheVariants.{Gpr}
use Rattle.isle_assembler.specs.Conversions.{assembler, class_word}
use Rattle.isle_assembler_rows.specs.Operands.{is_register, written_operands}
use Rattle.isle_assembler.specs.Signatures.{class_name}

-- how the register of an operand is reached, by what is done with this operand; one that is only read gives none
abbrev pub reached : Mutability → List ℕ
reached Read = []
reached ReadWrite = codes "write.to_reg()"
reached Write = codes "to_reg()"

-- the class of an operand's register; other operands have none
abbrev pub class_of : OperandKind → RegClass
class_of Imm = Gpr
class_of (Reg class) = class
class_of (FixedReg class) = class
class_of (RegMem class) = class
class_of Mem = Gpr

-- the instruction alone
unfoldable pub side_effect : List ℕ
side_effect = codes "AssemblerOutputs::SideEffect { inst }"

-- the instruction with the register of a class, that is at hand under the name of its class
unfoldable pub with_register : RegClass → List ℕ
with_register class = codes "AssemblerOutputs::Ret" ++ (class_name class ++ (codes " { inst, " ++ (class_word class ++ codes " }")))

-- a register under the name of its class, and the instruction with it
unfoldable pub bound_register : RegClass → (place access : List ℕ) → Mutability → List ℕ
bound_register class place access m =
    codes "let " ++ (class_word class ++ (codes " = " ++ (place ++ (access ++ (reached m ++ (codes "; " ++ with_register class))))))

-- one register
abbrev pub one_register : Operand → List ℕ
one_register x = bound_register (class_of x.kind) x.location (codes ".as_ref().") x.mutability

-- how an arm of a match over a place of this class begins
unfoldable pub arm_begin : RegClass → List ℕ
arm_begin class = assembler ++ (class_name class ++ codes "Mem::")

-- the arm of a register
unfoldable pub register_arm : RegClass → Mutability → List ℕ
register_arm class m = arm_begin class ++ (class_name class ++ (codes "(reg) => { " ++ (bound_register class (codes "reg") (codes ".") m ++ codes " }")))

-- the arm of a place in memory
unfoldable pub memory_arm : RegClass → List ℕ
memory_arm class = arm_begin class ++ (codes "Mem(_) => { " ++ (side_effect ++ codes " }"))

-- a register or a place in memory
unfoldable pub one_place : RegClass → Operand → List ℕ
one_place class x =
    codes "match " ++ (x.location ++ (codes " { " ++ (register_arm class x.mutability ++ (codes " " ++ (memory_arm class ++ codes " }")))))

-- a register of two, under this name
unfoldable pub bound_of_two : (name : List ℕ) → Operand → List ℕ
bound_of_two name x = codes "let " ++ (name ++ (codes " = " ++ (x.location ++ (codes ".as_ref()." ++ (reached x.mutability ++ codes ".to_reg(); ")))))

-- two registers
unfoldable pub two_registers : Operand → Operand → List ℕ
two_registers x y =
    bound_of_two (codes "one") x
    ++ (bound_of_two (codes "two") y ++ (codes "let regs = ValueRegs::two(one, two); " ++ codes "AssemblerOutputs::RetValueRegs { inst, regs }"))

-- one operand that is no register
abbrev pub given_by : OperandKind → Operand → List ℕ
given_by Imm x = side_effect
given_by (Reg class) x = one_register x
given_by (FixedReg class) x = one_register x
given_by (RegMem class) x = one_place class x
given_by Mem x = side_effect

-- without a register: the instruction alone, or what the first operand gives
abbrev pub given_elsewhere : List Operand → List ℕ
given_elsewhere [] = side_effect
given_elsewhere (x ∷ more) = given_by x.kind x

-- by the registers among the operands that are written, and all of these
abbrev pub given_among : (registers written : List Operand) → List ℕ
given_among [] written = given_elsewhere written
given_among (x ∷ []) written = one_register x
given_among (x ∷ y ∷ more) written = two_registers x y

-- the registers among operands
abbrev pub registers : List Operand → List Operand
registers os = filter (λ (o : Operand). is_register o.kind) os

-- what a method gives
abbrev pub given : Inst → List ℕ
given i = given_among (registers (written_operands i)) (written_operands i)
