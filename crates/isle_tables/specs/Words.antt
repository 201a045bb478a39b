-- What words say in written tables.
use Rattle.std.specs.Prelude.{ℕ, List, length, slice_index, Bool, ◌&&◌, ◌||◌, ◌==◌, not, nat_le, nat_lt, if◌then◌else◌, Option, Some, None, bytes_eq, codes}
use Rattle.std.specs.List.{list_all}
use Rattle.isle_lexer.specs.Integer.{is_decimal, spelt_number}
use Rattle.isle_meta.specs.declared.clif.OperandClass.{OperandClass}
use Rattle.isle_meta.specs.declared.clif.OperandClass.TheVariants as class
use Rattle.isle_meta.specs.declared.machine.OperandKind.{OperandKind}
use Rattle.isle_meta.specs.declared.machine.OperandKind.TheVariants as kind
use Rattle.isle_meta.specs.declared.machine.RegClass.TheVariants.{Gpr, Xmm}
use Rattle.isle_meta.specs.declared.machine.Mutability.{Mutability}
use Rattle.isle_meta.specs.declared.machine.Mutability.TheVariants as mutability

-- a symbol is any word that does not begin with a digit or a minus sign
abbrev pub is_symbol : List ℕ → Bool
is_symbol w = not (is_decimal (slice_index w 0) || (slice_index w 0 == 45))

-- the symbol that a word is
unfoldable pub symbol_of : List ℕ → Option (List ℕ)
symbol_of w = if is_symbol w then Some w else None

-- the number that a word spells by decimal digits, at least one and at most so many
abbrev pub decimal_of : ℕ → List ℕ → Option ℕ
decimal_of most w = if nat_le 1 (length w) && nat_le (length w) most && list_all is_decimal w then Some (spelt_number 10 w) else None

-- NUM: one to three decimal digits
unfoldable pub count_of : List ℕ → Option ℕ
count_of w = decimal_of 3 w

-- a number of sixteen bits
abbrev pub sixteen_bits : Option ℕ → Option ℕ
sixteen_bits None = None
sixteen_bits (Some n) = if nat_lt n 65536 then Some n else None

-- BITS: one to five decimal digits of a number up to 65,535
unfoldable pub bits_of : List ℕ → Option ℕ
bits_of w = sixteen_bits (decimal_of 5 w)

-- where an operand of the assembler may lie
unfoldable pub kind_of : List ℕ → Option OperandKind
kind_of w =
    if bytes_eq w (codes "imm") then Some kind.Imm
    else (if bytes_eq w (codes "gpr") then Some (kind.Reg Gpr)
    else (if bytes_eq w (codes "xmm") then Some (kind.Reg Xmm)
    else (if bytes_eq w (codes "fixed-gpr") then Some (kind.FixedReg Gpr)
    else (if bytes_eq w (codes "fixed-xmm") then Some (kind.FixedReg Xmm)
    else (if bytes_eq w (codes "gpr-mem") then Some (kind.RegMem Gpr)
    else (if bytes_eq w (codes "xmm-mem") then Some (kind.RegMem Xmm)
    else (if bytes_eq w (codes "mem") then Some kind.Mem
    else None)))))))

-- what an instruction of the assembler does with an operand
unfoldable pub mutability_of : List ℕ → Option Mutability
mutability_of w =
    if bytes_eq w (codes "r") then Some mutability.Read
    else (if bytes_eq w (codes "rw") then Some mutability.ReadWrite
    else (if bytes_eq w (codes "w") then Some mutability.Write
    else None))

-- what an operand is that is named alone
unfoldable pub class_of : List ℕ → Option OperandClass
class_of w =
    if bytes_eq w (codes "value") then Some class.Value
    else (if bytes_eq w (codes "varargs") then Some class.Varargs
    else (if bytes_eq w (codes "block") then Some class.Block
    else (if bytes_eq w (codes "raw") then Some class.RawBlock
    else None)))
