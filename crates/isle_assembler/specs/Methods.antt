-- The Rust text of an assembler: a macro that writes a method for the raw term of each instruction.
use Rattle.std.specs.Prelude.{ℕ, List, [], ◌∷◌, ◌++◌, Bool, true, false, map, if◌then◌else◌, codes}
use Rattle.std.specs.List.{flat_map}
use Rattle.isle_meta.specs.declared.machine.Inst.{Inst}
use Rattle.isle_meta.specs.declared.machine.Operand.{Operand}
use Rattle.isle_assembler.specs.Conversions.{assembler, converted}
use Rattle.isle_assembler_rows.specs.Operands.{may_be_memory, raw_operands}
use Rattle.isle_assembler.specs.Returns.{given}
use Rattle.isle_assembler.specs.Signatures.{operand_type}
use Rattle.isle_assembler_rows.specs.TermNames.{is_left_out, raw_term}

-- ---- lists with something between

-- what stands in front of the next thing of a list: nothing in front of the first
abbrev pub gap : (is_first : Bool) → (between : List ℕ) → List ℕ
gap true between = []
gap false between = between

-- the things that are left of a list, with this between each two
abbrev pub separated : (is_first : Bool) → (between : List ℕ) → List (List ℕ) → List ℕ
separated is_first between [] = []
separated is_first between (x ∷ xs) = gap is_first between ++ (x ++ separated false between xs)

-- things with a comma between each two
abbrev pub listed : List (List ℕ) → List ℕ
listed xs = separated true (codes ", ") xs

-- ---- parameters and arguments

-- the type of a parameter: what may be a place in memory is lent
unfoldable pub rust_type : Operand → List ℕ
rust_type o = (if may_be_memory o.kind then codes "&" else []) ++ operand_type true o

-- a parameter
unfoldable pub param : Operand → List ℕ
param o = o.location ++ (codes ": " ++ rust_type o)

-- that of the trap's code
abbrev pub trap_params : (has_trap : Bool) → List (List ℕ)
trap_params true = codes "trap: &TrapCode" ∷ []
trap_params false = []

-- the parameters of a method
abbrev pub params : Inst → List (List ℕ)
params i = map param (raw_operands i) ++ trap_params i.has_trap

-- an argument of the assembler's function
unfoldable pub argument : Operand → List ℕ
argument o = o.location ++ codes ".clone()"

-- the trap's code as one
unfoldable pub trap_argument : List ℕ
trap_argument = assembler ++ codes "TrapCode(trap.as_raw())"

-- that of an instruction that may trap
abbrev pub trap_arguments : (has_trap : Bool) → List (List ℕ)
trap_arguments true = trap_argument ∷ []
trap_arguments false = []

-- all arguments
abbrev pub arguments : Inst → List (List ℕ)
arguments i = map argument i.operands ++ trap_arguments i.has_trap

-- ---- methods

-- how a line of a method's body begins
unfoldable pub line_begin : List ℕ
line_begin = codes "            "

-- an operand turned into one of the assembler, under its own name
unfoldable pub let_line : Operand → List ℕ
let_line o = line_begin ++ (codes "let " ++ (o.location ++ (codes " = " ++ (converted o ++ codes ";\n"))))

-- the assembler's instruction
unfoldable pub inst_line : Inst → List ℕ
inst_line i =
    line_begin ++ (codes "let inst = " ++ (assembler ++ (codes "inst::" ++ (i.name ++ (codes "::new(" ++ (listed (arguments i) ++ codes ").into();\n"))))))

-- the instruction of the compiler around it
unfoldable pub outer_line : List ℕ
outer_line = line_begin ++ codes "let inst = MInst::External { inst };\n"

-- a method's name and parameters
unfoldable pub head_line : Inst → List ℕ
head_line i = codes "        fn " ++ (raw_term i.name ++ (codes "(&mut self, " ++ (listed (params i) ++ codes ") -> AssemblerOutputs {\n")))

-- what it gives, and its end
unfoldable pub last_lines : Inst → List ℕ
last_lines i = line_begin ++ (given i ++ codes "\n        }\n")

-- the method of an instruction
abbrev pub method : Inst → List ℕ
method i = head_line i ++ (flat_map let_line i.operands ++ (inst_line i ++ (outer_line ++ last_lines i)))

-- that of a row; one that is left out has none
abbrev pub row_method : Inst → List ℕ
row_method i = if is_left_out i then [] else method i

-- how the macro begins
unfoldable pub macro_head : List ℕ
macro_head = codes "#[doc(hidden)]\nmacro_rules! isle_assembler_methods {\n    () => {\n"

-- how it ends
unfoldable pub macro_tail : List ℕ
macro_tail = codes "    };\n}\n"

-- the macro
unfoldable pub assembler_methods : List Inst → List ℕ
assembler_methods is = macro_head ++ (flat_map row_method is ++ macro_tail)
