-- How a method of the macro turns each operand into one of the assembler.
use Rattle.std.specs.Prelude.{ℕ, List, [], ◌++◌, Bool, true, false, if◌then◌else◌, codes}
use Rattle.isle_meta.specs.declared.machine.Mutability.{Mutability}
use Rattle.isle_meta.specs.declared.machine.Mutability.TheVariants.{Read, ReadWrite, Write}
use Rattle.isle_meta.specs.declared.machine.Operand.{Operand}
use Rattle.isle_meta.specs.declared.machine.OperandKind.{OperandKind}
use Rattle.isle_meta.specs.declared.machine.OperandKind.TheVariants.{Imm, Reg, FixedReg, RegMem, Mem}
use Rattle.isle_meta.specs.declared.machine.RegClass.{RegClass}
use Rattle.isle_meta.specs.declared.machine.RegClass.TheVariants.{Gpr, Xmm}
use Rattle.isle_assembler.specs.Signatures.{bits, class_name}

-- the crate of the assembler's types
unfoldable pub assembler : List ℕ
assembler = codes "cranelift_assembler_x64::"

-- a class of registers in names of methods
abbrev pub class_word : RegClass → List ℕ
class_word Gpr = codes "gpr"
class_word Xmm = codes "xmm"

-- what is done with an operand, in names of methods
abbrev pub access_word : Mutability → List ℕ
access_word Read = codes "read"
access_word ReadWrite = codes "read_write"
access_word Write = codes "write"

-- a new register of a class
unfoldable pub new_register : RegClass → List ℕ
new_register class = codes "self.temp_writable_" ++ (class_word class ++ codes "()")

-- a register of a class that a method of this name turns into one that is read and written
unfoldable pub read_write : (name : List ℕ) → RegClass → (x : List ℕ) → List ℕ
read_write name class x =
    codes "self.convert_" ++ (class_word class ++ (codes "_to_assembler_" ++ (name ++ (class_word class ++ (codes "(" ++ (x ++ codes ")"))))))

-- a register wrapped into the assembler's type
unfoldable pub wrapped : (name inner : List ℕ) → List ℕ
wrapped name inner = assembler ++ (name ++ (codes "(" ++ (inner ++ codes ")")))

-- the assembler's type of registers of a class, as a function
unfoldable pub class_maker : RegClass → List ℕ
class_maker class = class_name class ++ codes "::new"

-- a register
abbrev pub register : RegClass → Mutability → (x : List ℕ) → List ℕ
register class Read x = wrapped (class_maker class) x
register class ReadWrite x = read_write (codes "read_write_") class x
register class Write x = wrapped (class_maker class) (new_register class)

-- a fixed register
abbrev pub fixed_register : RegClass → Mutability → (x : List ℕ) → List ℕ
fixed_register class Read x = wrapped (codes "Fixed") x
fixed_register class ReadWrite x = read_write (codes "fixed_read_write_") class x
fixed_register class Write x = wrapped (codes "Fixed") (new_register class)

-- an immediate
unfoldable pub immediate : Operand → List ℕ
immediate o = assembler ++ ((if o.sign_extended then codes "Simm" else codes "Imm") ++ (bits o ++ (codes "::new(" ++ (o.location ++ codes ")"))))

-- what a method's name says of a place in memory that must be aligned
abbrev pub aligned_word : Bool → List ℕ
aligned_word true = codes "_aligned"
aligned_word false = []

-- a register or a place in memory
unfoldable pub reg_mem : RegClass → Operand → List ℕ
reg_mem class o =
    codes "self.convert_" ++ (class_word class ++ (codes "_mem_to_assembler_" ++ (access_word o.mutability ++ (codes "_"
    ++ (class_word class ++ (codes "_mem" ++ (aligned_word o.align ++ (codes "(" ++ (o.location ++ codes ")")))))))))

-- a place in memory
unfoldable pub memory : Operand → List ℕ
memory o = codes "self.convert_amode_to_assembler_amode(" ++ (o.location ++ codes ")")

-- an operand that lies so
abbrev pub converted_by : OperandKind → Operand → List ℕ
converted_by Imm o = immediate o
converted_by (Reg class) o = register class o.mutability o.location
converted_by (FixedReg class) o = fixed_register class o.mutability o.location
converted_by (RegMem class) o = reg_mem class o
converted_by Mem o = memory o

-- an operand
abbrev pub converted : Operand → List ℕ
converted o = converted_by o.kind o
