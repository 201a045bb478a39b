-- Readers of written tables.
use Rattle.std.specs.Prelude.{ℕ, List, [], ◌∷◌, ◌++◌, Bool, true, false, if◌then◌else◌, Option, Some, None, option_map, is_some, bytes_eq, codes}
use Rattle.isle_reading.specs.Combinators.{is_open, is_close, on_word, bytes, place, read_open, read_close, read_word, read_optional, words_from, many, all}
use Rattle.isle_reading.specs.Reader.{Reader, Ret, Ask, Peek, bind}
use Rattle.isle_meta.specs.declared.clif.ImmField.{ImmField}
use Rattle.isle_meta.specs.declared.clif.OperandClass.{OperandClass}
use Rattle.isle_meta.specs.declared.clif.OperandClass.TheVariants as class
use Rattle.isle_meta.specs.declared.clif.ClifOperand.{ClifOperand}
use Rattle.isle_meta.specs.declared.machine.OperandKind.{OperandKind}
use Rattle.isle_meta.specs.declared.machine.Mutability.{Mutability}
use Rattle.isle_meta.specs.declared.machine.Operand.{Operand}
use Rattle.isle_meta.specs.declared.machine.Alternate.{Alternate}
use Rattle.isle_meta.specs.declared.pulley.PulleyInst.{PulleyInst}
use Rattle.isle_tables.specs.declared.item.Item.{Item}
use Rattle.isle_tables.specs.declared.item.Item.TheVariants as item
use Rattle.isle_tables.specs.declared.item.ItemHead.{ItemHead}
use Rattle.isle_tables.specs.declared.item.ItemHead.TheVariants as head
use Rattle.isle_tables.specs.Words.{symbol_of, is_symbol, count_of, bits_of, kind_of, mutability_of, class_of}

-- ---- words

-- whether it is this word
abbrev pub flag_of : List ℕ → List ℕ → Option Bool
flag_of key w = if bytes_eq w key then Some true else None

-- a symbol
unfoldable pub read_symbol : Reader (List ℕ)
read_symbol = read_word symbol_of

-- a symbol and its place
unfoldable pub read_placed : Reader (List ℕ × ℕ)
read_placed = Ask (on_word (λ w. is_some (symbol_of w))) (λ t. Ret (bytes t, place t))

-- NUM
unfoldable pub read_count : Reader ℕ
read_count = read_word count_of

-- BITS
unfoldable pub read_bits : Reader ℕ
read_bits = read_word bits_of

-- where an operand may lie
unfoldable pub read_kind : Reader OperandKind
read_kind = read_word kind_of

-- what is done with an operand
unfoldable pub read_mutability : Reader Mutability
read_mutability = read_word mutability_of

-- this word
unfoldable pub read_key : List ℕ → Reader Bool
read_key key = read_word (flag_of key)

-- this word, or nothing
unfoldable pub read_flag : List ℕ → Reader Bool
read_flag key = read_optional (flag_of key) false

-- ( WORD NUM )
unfoldable pub read_counted : List ℕ → Reader ℕ
read_counted key = bind read_open (λ o. bind (read_key key) (λ h. bind read_count (λ n. bind read_close (λ c. Ret n))))

-- ---- formats

-- V* ) of `one-of`, and the parenthesis after them
unfoldable pub read_one_of : ℕ → Reader (Option (List (List ℕ)))
read_one_of n = bind read_open (λ o. bind (read_key (codes "one-of")) (λ h. bind (many n read_symbol) (λ vs. bind read_close (λ c. Ret (Some vs)))))

-- [( one-of V* )] )
unfoldable pub read_values : ℕ → Reader (Option (List (List ℕ)))
read_values n = Peek is_close (bind read_close (λ c. Ret None)) (read_one_of n)

-- MEMBER TYPE [( one-of V* )] )
unfoldable pub read_imm_after : ℕ → Reader ImmField
read_imm_after n = bind read_symbol (λ member. bind read_symbol (λ type. bind (read_values n) (λ vs. Ret (record { member = member; rust_type = type; values = vs }))))

-- ( imm MEMBER TYPE [( one-of V* )] )
unfoldable pub read_imm : ℕ → Reader ImmField
read_imm n = bind read_open (λ o. bind (read_key (codes "imm")) (λ h. read_imm_after n))

-- the typevar operand and the immediates
abbrev pub Parts : Type 0
Parts = Option ℕ × List ImmField

-- whether a list in a format is its typevar operand; else it is an immediate
abbrev pub part_of : List ℕ → Option Bool
part_of w = if bytes_eq w (codes "typevar") then Some true else (if bytes_eq w (codes "imm") then Some false else None)

-- the first word of a list in a format
unfoldable pub read_part_head : Reader Bool
read_part_head = read_word part_of

-- what stands after the first word of the first list in a format
unfoldable pub read_parts_after : ℕ → Bool → Reader Parts
read_parts_after n true = bind read_count (λ v. bind read_close (λ c. bind (many n (read_imm n)) (λ imms. Ret (Some v, imms))))
read_parts_after n false = bind (read_imm_after n) (λ i. bind (many n (read_imm n)) (λ imms. Ret (None, i ∷ imms)))

-- the first list in a format, and what stands after it
unfoldable pub read_some_parts : ℕ → Reader Parts
read_some_parts n = bind read_open (λ o. bind read_part_head (λ h. read_parts_after n h))

-- [( typevar NUM )] ( imm MEMBER TYPE [( one-of V* )] )* )
unfoldable pub read_parts : ℕ → Reader Parts
read_parts n = Peek is_close (bind read_close (λ c. Ret (None, []))) (read_some_parts n)

-- the numbers of operands
abbrev pub Counts : Type 0
Counts = ℕ × ℕ × ℕ

-- ( values NUM ) ( blocks NUM ) ( raw NUM )
unfoldable pub read_counts : Reader Counts
read_counts = bind (read_counted (codes "values")) (λ v. bind (read_counted (codes "blocks")) (λ b. bind (read_counted (codes "raw")) (λ r. Ret (v, b, r))))

-- NAME [list] ( values NUM ) ( blocks NUM ) ( raw NUM ) [( typevar NUM )] ( imm MEMBER TYPE [( one-of V* )] )* )
unfoldable pub read_format : ℕ → Reader Item
read_format n = bind read_symbol (λ name. bind (read_flag (codes "list")) (λ list. bind read_counts (λ k. bind (read_parts n) (λ p. Ret (item.Format (record {
  name = name;
  has_value_list = list;
  num_value_operands = k.0;
  num_block_operands = k.1;
  num_raw_block_operands = k.2;
  imm_fields = p.1;
  typevar_operand = p.0;
}))))))

-- ---- instructions

-- what an operand is by its first word; none is given of an immediate
abbrev pub opnd_head_of : List ℕ → Option (Option OperandClass)
opnd_head_of w = if bytes_eq w (codes "imm") then Some None else option_map (λ c. Some c) (class_of w)

-- the first word of an operand
unfoldable pub read_opnd_head : Reader (Option OperandClass)
read_opnd_head = read_word opnd_head_of

-- what the operand is, an immediate by its type
unfoldable pub read_class : Option OperandClass → Reader OperandClass
read_class None = bind read_symbol (λ type. Ret (class.Imm type))
read_class (Some c) = Ret c

-- an operand
unfoldable pub read_opnd : Reader ClifOperand
read_opnd = bind read_open (λ o. bind read_opnd_head (λ h. bind read_symbol (λ name. bind (read_class h) (λ c. bind read_close (λ e. Ret (record { name = name; class = c }))))))

-- ( in opnd* )
unfoldable pub read_opnds : ℕ → Reader (List ClifOperand)
read_opnds n = bind read_open (λ o. bind (read_key (codes "in")) (λ h. many n read_opnd))

-- the names of an instruction, the last with its place
abbrev pub InstNames : Type 0
InstNames = List ℕ × List ℕ × List ℕ × ℕ

-- NAME CAMEL FORMAT
unfoldable pub read_inst_names : Reader InstNames
read_inst_names = bind read_symbol (λ name. bind read_symbol (λ camel. bind read_placed (λ f. Ret (name, camel, f.0, f.1))))

-- the number of results, and the two flags
abbrev pub Effects : Type 0
Effects = ℕ × Bool × Bool

-- ( out NUM ) [trap] [effect] )
unfoldable pub read_effects : Reader Effects
read_effects = bind (read_counted (codes "out")) (λ r. bind (read_flag (codes "trap")) (λ t. bind (read_flag (codes "effect")) (λ e. bind read_close (λ c. Ret (r, t, e)))))

-- NAME CAMEL FORMAT ( in opnd* ) ( out NUM ) [trap] [effect] )
unfoldable pub read_inst : ℕ → Reader Item
read_inst n = bind read_inst_names (λ names. bind (read_opnds n) (λ opnds. bind read_effects (λ e. Ret (item.Inst (record {
  name = names.0;
  camel_name = names.1;
  format = names.2;
  format_at = names.3;
  operands_in = opnds;
  value_results = e.0;
  can_trap = e.1;
  other_side_effects = e.2;
})))))

-- ---- the assembler

-- what an operand is
abbrev pub XopForm : Type 0
XopForm = ℕ × OperandKind × Mutability

-- BITS kind mut
unfoldable pub read_xop_form : Reader XopForm
read_xop_form = bind read_bits (λ bits. bind read_kind (λ kind. bind read_mutability (λ mutability. Ret (bits, kind, mutability))))

-- two flags
abbrev pub TwoFlags : Type 0
TwoFlags = Bool × Bool

-- [signed] [align] )
unfoldable pub read_xop_flags : Reader TwoFlags
read_xop_flags = bind (read_flag (codes "signed")) (λ s. bind (read_flag (codes "align")) (λ a. bind read_close (λ c. Ret (s, a))))

-- ( LOC BITS kind mut [signed] [align] )
unfoldable pub read_xop : Reader Operand
read_xop = bind read_open (λ o. bind read_symbol (λ location. bind read_xop_form (λ f. bind read_xop_flags (λ g. Ret (record {
  location = location;
  bits = f.0;
  kind = f.1;
  mutability = f.2;
  sign_extended = g.0;
  align = g.1;
})))))

-- ( xop* )
unfoldable pub read_xops : ℕ → Reader (List Operand)
read_xops n = bind read_open (λ o. many n read_xop)

-- three flags
abbrev pub ThreeFlags : Type 0
ThreeFlags = Bool × Bool × Bool

-- [reads] [writes] [trap]
unfoldable pub read_x64_flags : Reader ThreeFlags
read_x64_flags = bind (read_flag (codes "reads")) (λ r. bind (read_flag (codes "writes")) (λ w. bind (read_flag (codes "trap")) (λ t. Ret (r, w, t))))

-- ( alt NAME FEATURE )
unfoldable pub read_alternate : Reader Alternate
read_alternate = bind read_open (λ o. bind (read_key (codes "alt")) (λ h. bind read_symbol (λ name. bind read_symbol (λ feature. bind read_close (λ c. Ret (record { name = name; feature = feature }))))))

-- ( alt NAME FEATURE ) and the parenthesis after it
unfoldable pub read_some_alt : Reader (Option Alternate)
read_some_alt = bind read_alternate (λ a. bind read_close (λ c. Ret (Some a)))

-- [( alt NAME FEATURE )] )
unfoldable pub read_alt : Reader (Option Alternate)
read_alt = Peek is_close (bind read_close (λ c. Ret None)) read_some_alt

-- what stands in front of the flags
abbrev pub X64Front : Type 0
X64Front = List ℕ × List ℕ × List Operand

-- MNEMONIC NAME ( xop* )
unfoldable pub read_x64_front : ℕ → Reader X64Front
read_x64_front n = bind read_symbol (λ mnemonic. bind read_symbol (λ name. bind (read_xops n) (λ xops. Ret (mnemonic, name, xops))))

-- MNEMONIC NAME ( xop* ) [reads] [writes] [trap] [( alt NAME FEATURE )] )
unfoldable pub read_x64 : ℕ → Reader Item
read_x64 n = bind (read_x64_front n) (λ front. bind read_x64_flags (λ g. bind read_alt (λ a. Ret (item.X64 (record {
  mnemonic = front.0;
  name = front.1;
  operands = front.2;
  reads_flags = g.0;
  writes_flags = g.1;
  has_trap = g.2;
  alternate = a;
})))))

-- ---- the interpreter

-- with one operand more
abbrev pub more_operands : List ℕ → List ℕ → Option (List ℕ)
more_operands text w = if is_symbol w then Some (text ++ codes ", " ++ w) else None

-- A, as the text begins
unfoldable pub read_first : Reader (List ℕ)
read_first = bind read_symbol (λ a. Ret (codes "BinaryOperands < " ++ a))

-- A [B [C]] )
unfoldable pub read_binary : Reader (List ℕ)
read_binary = bind read_first (λ text. bind (words_from 2 more_operands text) (λ all. bind read_close (λ c. Ret (all ++ codes " >"))))

-- whether a type in parentheses is a binary one; else it is the upper one
abbrev pub shape_of : List ℕ → Option Bool
shape_of w = if bytes_eq w (codes "binary") then Some true else (if bytes_eq w (codes "upper") then Some false else None)

-- the first word of a type in parentheses
unfoldable pub read_shape_head : Reader Bool
read_shape_head = read_word shape_of

-- what stands after the first word of a type in parentheses
unfoldable pub read_shape_after : Bool → Reader (List ℕ)
read_shape_after true = read_binary
read_shape_after false = bind read_close (λ c. Ret (codes "UpperRegSet < XReg >"))

-- a type in parentheses
unfoldable pub read_shape : Reader (List ℕ)
read_shape = bind read_open (λ o. bind read_shape_head (λ h. read_shape_after h))

-- a field's type
unfoldable pub read_field_type : Reader (List ℕ)
read_field_type = Peek is_open read_shape read_symbol

-- a field
unfoldable pub read_field : Reader (List ℕ × List ℕ)
read_field = bind read_open (λ o. bind read_symbol (λ name. bind read_field_type (λ type. bind read_close (λ c. Ret (name, type)))))

-- SNAKE NAME field* )
unfoldable pub read_op : ℕ → Reader PulleyInst
read_op n = bind read_symbol (λ snake. bind read_symbol (λ name. bind (many n read_field) (λ fields. Ret (record { snake_name = snake; name = name; fields = fields }))))

-- ---- items

-- what an item is by its first word
abbrev pub item_head_of : List ℕ → Option ItemHead
item_head_of w =
    if bytes_eq w (codes "format") then Some head.Format
    else (if bytes_eq w (codes "inst") then Some head.Inst
    else (if bytes_eq w (codes "x64") then Some head.X64
    else (if bytes_eq w (codes "op") then Some head.Op
    else (if bytes_eq w (codes "ext-op") then Some head.ExtOp
    else None))))

-- the first word of an item
unfoldable pub read_item_head : Reader ItemHead
read_item_head = read_word item_head_of

-- what stands after the first word of an item
unfoldable pub read_item_after : ℕ → ItemHead → Reader Item
read_item_after n head.Format = read_format n
read_item_after n head.Inst = read_inst n
read_item_after n head.X64 = read_x64 n
read_item_after n head.Op = bind (read_op n) (λ i. Ret (item.Op i))
read_item_after n head.ExtOp = bind (read_op n) (λ i. Ret (item.ExtOp i))

-- an item
unfoldable pub read_item : ℕ → Reader Item
read_item n = bind read_open (λ o. bind read_item_head (λ h. read_item_after n h))

-- items up to the end of the text, of at most n tokens
unfoldable pub read_items : ℕ → Reader (List Item)
read_items n = all n (read_item n)
