-- The third item of the Rust text: how an instruction is put into the buffer of machine code.
use Rattle.std.specs.Prelude.{ℕ, List, [], ◌++◌, codes}
use Rattle.std.specs.List.{flat_map}
use Rattle.isle_pulley_rows.specs.declared.operand.Operand.{Operand}
use Rattle.isle_pulley_rows.specs.declared.operand.Operand.TheVariants.{Normal, Writable, Binop, Trap}
use Rattle.isle_pulley_rows.specs.declared.operation.Operation.{Operation}
use Rattle.isle_pulley.specs.Display.{arm_head, arm_opening, listed, pattern_text}
use Rattle.isle_pulley.specs.Visits.{match_tail}

-- ---- TRAP: the place of a trap is noted

-- a call that notes a trap
unfoldable pub noted_trap : List ℕ
noted_trap = codes "                sink.add_trap(code);\n"

-- TRAP of an operand
abbrev pub trap_text : Operand → List ℕ
trap_text (Normal name ty) = []
trap_text (Writable name ty) = []
trap_text (Binop dst src1 src2) = []
trap_text Trap = noted_trap

-- ---- ARGS: what is encoded

-- binary operands are encoded as one
unfoldable pub binary_argument : List ℕ
binary_argument = codes "pulley_interpreter::regs::BinaryOperands::new(dst, src1, src2), "

-- ARGS of an operand
abbrev pub argument_text : Operand → List ℕ
argument_text (Normal name ty) = listed name
argument_text (Writable name ty) = listed name
argument_text (Binop dst src1 src2) = binary_argument
argument_text Trap = []

-- ---- the item

-- how the call begins that encodes
unfoldable pub encode_head : List ℕ → List ℕ
encode_head snake = codes "                pulley_interpreter::encode::" ++ (snake ++ codes "(sink, ")

-- how it ends, and its arm
unfoldable pub encode_tail : List ℕ
encode_tail = codes ")\n            }\n"

-- the call that encodes an operation, and the end of its arm
abbrev pub encoded : Operation → List ℕ
encoded op = encode_head op.snake ++ (flat_map argument_text op.operands ++ encode_tail)

-- RawInst::NAME { PAT } => { TRAP pulley_interpreter::encode::SNAKE(sink, ARGS) }
abbrev pub emit_arm : Operation → List ℕ
emit_arm op =
    arm_head op.name
    ++ (flat_map pattern_text op.operands ++ (arm_opening ++ (flat_map trap_text op.operands ++ encoded op)))

-- how the item begins
unfoldable pub emit_head : List ℕ
emit_head =
    codes "pub fn emit<P>(inst: &RawInst, sink: &mut MachBuffer<InstAndKind<P>>)\nwhere\n    P: PulleyTargetKind,\n{\n"
    ++ codes "    match *inst {\n"

-- the item that emits instructions, with an arm for each operation
abbrev pub emit_item : List Operation → List ℕ
emit_item ops = emit_head ++ (flat_map emit_arm ops ++ match_tail)
