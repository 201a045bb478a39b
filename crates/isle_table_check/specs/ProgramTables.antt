-- The tables of the program itself: a few instructions, in the manner of a compiler's.
use Rattle.std.specs.Prelude.{ℕ, List, [], ◌∷◌, Option, Some, None, false, codes}
use Rattle.isle_meta.specs.declared.clif.ClifOperand.{ClifOperand}
use Rattle.isle_meta.specs.declared.clif.ImmField.{ImmField}
use Rattle.isle_meta.specs.declared.clif.Instruction.{Instruction}
use Rattle.isle_meta.specs.declared.clif.InstructionFormat.{InstructionFormat}
use Rattle.isle_meta.specs.declared.clif.OperandClass.{OperandClass}
use Rattle.isle_meta.specs.declared.clif.OperandClass.TheVariants as class
use Rattle.isle_meta.specs.declared.tables.Tables.{Tables}

-- the Rust type of immediates of 64 bits
abbrev pub imm64 : List ℕ
imm64 = codes "ir::immediates::Imm64"

-- a format of so many values and these immediates, without lists or blocks
abbrev pub format_of : (name : List ℕ) → (values : ℕ) → List ImmField → (typevar : Option ℕ) → InstructionFormat
format_of name values imms typevar = record {
  name = name;
  has_value_list = false;
  num_value_operands = values;
  num_block_operands = 0;
  num_raw_block_operands = 0;
  imm_fields = imms;
  typevar_operand = typevar;
}

-- two values
abbrev pub binary : InstructionFormat
binary = format_of (codes "Binary") 2 [] (Some 0)

-- an immediate
abbrev pub unary_imm : InstructionFormat
unary_imm = format_of (codes "UnaryImm") 0 (record { member = codes "imm"; rust_type = imm64; values = None } ∷ []) None

-- an operand
abbrev pub operand : (name : List ℕ) → OperandClass → ClifOperand
operand name c = record { name = name; class = c }

-- an instruction of the format of this number, with one result, that neither traps nor has other effects
abbrev pub instruction : (name camel : List ℕ) → (format : ℕ) → List ClifOperand → Instruction
instruction name camel format operands = record {
  name = name;
  camel_name = camel;
  format = format;
  operands_in = operands;
  value_results = 1;
  can_trap = false;
  other_side_effects = false;
}

-- one of two values
abbrev pub of_two_values : (name camel : List ℕ) → Instruction
of_two_values name camel = instruction name camel 0 (operand (codes "x") class.Value ∷ operand (codes "y") class.Value ∷ [])

-- a constant
abbrev pub iconst : Instruction
iconst = instruction (codes "iconst") (codes "Iconst") 1 (operand (codes "N") (class.Imm imm64) ∷ [])

-- addition and subtraction of two values, and constants; no rows of machines
abbrev pub sample_tables : Tables
sample_tables = record {
  formats = binary ∷ unary_imm ∷ [];
  instructions = of_two_values (codes "iadd") (codes "Iadd") ∷ of_two_values (codes "isub") (codes "Isub") ∷ iconst ∷ [];
  x64 = [];
  ops = [];
  extended_ops = [];
}
