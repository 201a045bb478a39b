-- The second item of the Rust text: which registers an instruction reads and writes.
use Rattle.std.specs.Prelude.{ℕ, List, [], ◌∷◌, ◌++◌, Bool, ◌&&◌, ◌||◌, not, codes}
use Rattle.std.specs.List.{flat_map}
use Rattle.isle_meta.specs.TableNames.{is_among}
use Rattle.isle_pulley_rows.specs.declared.operand.Operand.{Operand}
use Rattle.isle_pulley_rows.specs.declared.operand.Operand.TheVariants.{Normal, Writable, Binop, Trap}
use Rattle.isle_pulley_rows.specs.declared.operation.Operation.{Operation}
use Rattle.isle_pulley.specs.Display.{arm_head, is_set, listed, where_true}
use Rattle.isle_pulley_rows.specs.Words.{begins_with, is_register}

-- the operations that save or restore a frame tell of its registers by themselves
unfoldable pub is_frame : List ℕ → Bool
is_frame name = is_among name (codes "PushFrameSave" ∷ codes "PopFrameRestore" ∷ [])

-- a set of registers that isn't visited
abbrev pub is_left_out : (in_frame : Bool) (ty : List ℕ) → Bool
is_left_out in_frame ty = in_frame && is_set ty

-- whether what is read is visited as a register
abbrev pub is_used : (in_frame : Bool) (ty : List ℕ) → Bool
is_used in_frame ty = is_register ty && not (is_left_out in_frame ty)

-- whether it is visited as an address
abbrev pub is_address : List ℕ → Bool
is_address ty = begins_with (codes "Addr") ty && not (is_register ty)

-- ---- SOME: the variables that an arm binds, those that it visits

-- SOME of an operand
abbrev pub some_text : (in_frame : Bool) → Operand → List ℕ
some_text in_frame (Normal name ty) = where_true (is_used in_frame ty || is_address ty) (listed name)
some_text in_frame (Writable name ty) = where_true (is_used in_frame ty) (listed name)
some_text in_frame (Binop dst src1 src2) = codes "dst, src1, " ++ where_true (is_register src2) (codes "src2, ")
some_text in_frame Trap = []

-- ---- USES, DEFS, ADDRS: what is read, what is written, and addresses

-- a register that is read
unfoldable pub use_of : List ℕ → List ℕ
use_of name = codes "            collector.reg_use(" ++ (name ++ codes ");\n")

-- a register that is written
unfoldable pub def_of : List ℕ → List ℕ
def_of name = codes "            collector.reg_def(" ++ (name ++ codes ");\n")

-- an address, which has registers
unfoldable pub address_of : List ℕ → List ℕ
address_of name = codes "            " ++ (name ++ codes ".collect_operands(collector);\n")

-- USES of an operand
abbrev pub use_text : (in_frame : Bool) → Operand → List ℕ
use_text in_frame (Normal name ty) = where_true (is_used in_frame ty) (use_of name)
use_text in_frame (Writable name ty) = []
use_text in_frame (Binop dst src1 src2) = use_of (codes "src1") ++ where_true (is_register src2) (use_of (codes "src2"))
use_text in_frame Trap = []

-- DEFS of an operand
abbrev pub def_text : (in_frame : Bool) → Operand → List ℕ
def_text in_frame (Normal name ty) = []
def_text in_frame (Writable name ty) = where_true (is_used in_frame ty) (def_of name)
def_text in_frame (Binop dst src1 src2) = def_of (codes "dst")
def_text in_frame Trap = []

-- ADDRS of an operand
abbrev pub address_text : Operand → List ℕ
address_text (Normal name ty) = where_true (is_address ty) (address_of name)
address_text (Writable name ty) = []
address_text (Binop dst src1 src2) = []
address_text Trap = []

-- ---- the item

-- how a visit's arm goes on behind SOME
unfoldable pub visit_opening : List ℕ
visit_opening = codes ".. } => {\n"

-- how it ends
unfoldable pub visit_end : List ℕ
visit_end = codes "            }\n"

-- USES, DEFS and ADDRS of operands, and the end of their arm
unfoldable pub visits : (in_frame : Bool) → List Operand → List ℕ
visits in_frame os = flat_map (use_text in_frame) os ++ (flat_map (def_text in_frame) os ++ (flat_map address_text os ++ visit_end))

-- RawInst::NAME { SOME .. } => { USES DEFS ADDRS }
unfoldable pub visit_arm : Operation → List ℕ
visit_arm op =
    arm_head op.name
    ++ (flat_map (some_text (is_frame op.name)) op.operands ++ (visit_opening ++ visits (is_frame op.name) op.operands))

-- how the item begins
unfoldable pub visit_head : List ℕ
visit_head = codes "pub fn get_operands(inst: &mut RawInst, collector: &mut impl OperandVisitor) {\n    match inst {\n"

-- how an item ends that is a function over all instructions
unfoldable pub match_tail : List ℕ
match_tail = codes "    }\n}\n"

-- the item that visits the registers of instructions, with an arm for each operation
abbrev pub visit_item : List Operation → List ℕ
visit_item ops = visit_head ++ (flat_map visit_arm ops ++ match_tail)
