-- The readers of written tables are never too deep.
use Rattle.std.proofs.Common.{ℕ, List, [], ◌∷◌, ◌++◌, Bool, true, false, arith, Option, Some, None}
use Rattle.std.specs.Prelude.{codes, is_some}
use Rattle.isle_reading.specs.Combinators.{is_open, is_close, on_word, bytes, place, read_open, read_close, many}
use Rattle.isle_reading.specs.Reader.{Reader, Ret, bind}
use Rattle.isle_meta.specs.declared.clif.OperandClass.{OperandClass}
use Rattle.isle_tables.specs.declared.item.ItemHead.{ItemHead}
use Rattle.isle_tables.specs.declared.item.ItemHead.TheVariants as head
use Rattle.isle_tables.specs.Words.{symbol_of, count_of, bits_of, kind_of, mutability_of}
use Rattle.isle_tables.specs.Reading.{flag_of, part_of, opnd_head_of, more_operands, shape_of, item_head_of}
use Rattle.isle_tables.specs.Reading.{read_symbol, read_placed, read_count, read_bits, read_kind, read_mutability, read_key, read_flag, read_counted, read_one_of, read_values, read_imm_after, read_imm, read_part_head, read_parts_after, read_some_parts, read_parts, read_counts, read_format}
use Rattle.isle_tables.specs.Reading.{read_opnd_head, read_class, read_opnd, read_opnds, read_inst_names, read_effects, read_inst, read_xop_form, read_xop_flags, read_xop, read_xops, read_x64_flags, read_alternate, read_some_alt, read_alt, read_x64_front, read_x64}
use Rattle.isle_tables.specs.Reading.{read_first, read_binary, read_shape_head, read_shape_after, read_shape, read_field_type, read_field, read_op, read_item_head, read_item_after, read_item, read_items}
use Rattle.isle_tables.proofs.NeverDeep.{Never, Takes, never_ret, never_ask, never_open, never_close, never_word, never_peek, never_optional, never_then, never_words_from, takes_word, takes_open, takes_then, never_many, never_all}

-- one reader, and what hangs on it
then_ : {A B : Type 0} {n : ℕ} {r : Reader A} {k : A → Reader B} → Never n r → ((a : A) → Never n (k a)) → Never n (bind r k)
then_ {r = r} {k = k} h hk = never_then r k h hk

symbol : (n : ℕ) → Never n read_symbol
unfolding read_symbol
symbol n = never_word symbol_of

placed : (n : ℕ) → Never n read_placed
unfolding read_placed
placed n = never_ask (on_word (λ w. is_some (symbol_of w))) (λ t. Ret (bytes t, place t)) (λ t m. never_ret (bytes t, place t))

count : (n : ℕ) → Never n read_count
unfolding read_count
count n = never_word count_of

key : (n : ℕ) (w : List ℕ) → Never n (read_key w)
unfolding read_key
key n w = never_word (flag_of w)

flag : (n : ℕ) (w : List ℕ) → Never n (read_flag w)
unfolding read_flag
flag n w = never_optional (flag_of w) false

takes_symbol : Takes read_symbol
unfolding read_symbol
takes_symbol = takes_word symbol_of

counted : (n : ℕ) (w : List ℕ) → Never n (read_counted w)
unfolding read_counted
counted n w = then_ never_open (λ o. then_ (key n w) (λ h. then_ (count n) (λ m. then_ never_close (λ c. never_ret m))))

-- ---- formats

one_of : (n : ℕ) → Never n (read_one_of n)
unfolding read_one_of
one_of n = then_ never_open (λ o. then_ (key n (codes "one-of")) (λ h. then_ (never_many read_symbol (symbol n) takes_symbol n (omega arith)) (λ vs. then_ never_close (λ c. never_ret (Some vs)))))

values : (n : ℕ) → Never n (read_values n)
unfolding read_values
values n = never_peek is_close (bind read_close (λ c. Ret None)) (read_one_of n) (then_ never_close (λ c. never_ret None)) (one_of n)

imm_after : (n : ℕ) → Never n (read_imm_after n)
unfolding read_imm_after
imm_after n = then_ (symbol n) (λ m. then_ (symbol n) (λ t. then_ (values n) (λ vs. never_ret _)))

imm : (n : ℕ) → Never n (read_imm n)
unfolding read_imm
imm n = then_ never_open (λ o. then_ (key n (codes "imm")) (λ h. imm_after n))

takes_imm : (n : ℕ) → Takes (read_imm n)
unfolding read_imm
takes_imm n = takes_then read_open _ takes_open

imms : (n : ℕ) → Never n (many n (read_imm n))
imms n = never_many (read_imm n) (imm n) (takes_imm n) n (omega arith)

parts_after : (n : ℕ) (b : Bool) → Never n (read_parts_after n b)
unfolding read_parts_after
parts_after n true = then_ (count n) (λ v. then_ never_close (λ c. then_ (imms n) (λ is. never_ret (Some v, is))))
parts_after n false = then_ (imm_after n) (λ i. then_ (imms n) (λ is. never_ret (None, i ∷ is)))

some_parts : (n : ℕ) → Never n (read_some_parts n)
unfolding read_some_parts read_part_head
some_parts n = then_ never_open (λ o. then_ (never_word part_of) (λ h. parts_after n h))

parts : (n : ℕ) → Never n (read_parts n)
unfolding read_parts
parts n = never_peek is_close (bind read_close (λ c. Ret (None, []))) (read_some_parts n) (then_ never_close (λ c. never_ret (None, []))) (some_parts n)

counts : (n : ℕ) → Never n read_counts
unfolding read_counts
counts n = then_ (counted n (codes "values")) (λ v. then_ (counted n (codes "blocks")) (λ b. then_ (counted n (codes "raw")) (λ r. never_ret (v, b, r))))

format : (n : ℕ) → Never n (read_format n)
unfolding read_format
format n = then_ (symbol n) (λ name. then_ (flag n (codes "list")) (λ l. then_ (counts n) (λ k. then_ (parts n) (λ p. never_ret _))))

-- ---- instructions

class : (n : ℕ) (h : Option OperandClass) → Never n (read_class h)
unfolding read_class
class n None = then_ (symbol n) (λ t. never_ret _)
class n (Some c) = never_ret c

opnd : (n : ℕ) → Never n read_opnd
unfolding read_opnd read_opnd_head
opnd n = then_ never_open (λ o. then_ (never_word opnd_head_of) (λ h. then_ (symbol n) (λ name. then_ (class n h) (λ c. then_ never_close (λ e. never_ret _)))))

takes_opnd : Takes read_opnd
unfolding read_opnd
takes_opnd = takes_then read_open _ takes_open

opnds : (n : ℕ) → Never n (read_opnds n)
unfolding read_opnds
opnds n = then_ never_open (λ o. then_ (key n (codes "in")) (λ h. never_many read_opnd (opnd n) takes_opnd n (omega arith)))

names : (n : ℕ) → Never n read_inst_names
unfolding read_inst_names
names n = then_ (symbol n) (λ a. then_ (symbol n) (λ b. then_ (placed n) (λ f. never_ret _)))

effects : (n : ℕ) → Never n read_effects
unfolding read_effects
effects n = then_ (counted n (codes "out")) (λ r. then_ (flag n (codes "trap")) (λ t. then_ (flag n (codes "effect")) (λ e. then_ never_close (λ c. never_ret _))))

inst : (n : ℕ) → Never n (read_inst n)
unfolding read_inst
inst n = then_ (names n) (λ a. then_ (opnds n) (λ xs. then_ (effects n) (λ e. never_ret _)))

-- ---- the assembler

form : (n : ℕ) → Never n read_xop_form
unfolding read_xop_form read_bits read_kind read_mutability
form n = then_ (never_word bits_of) (λ b. then_ (never_word kind_of) (λ k. then_ (never_word mutability_of) (λ m. never_ret _)))

xop_flags : (n : ℕ) → Never n read_xop_flags
unfolding read_xop_flags
xop_flags n = then_ (flag n (codes "signed")) (λ s. then_ (flag n (codes "align")) (λ a. then_ never_close (λ c. never_ret _)))

xop : (n : ℕ) → Never n read_xop
unfolding read_xop
xop n = then_ never_open (λ o. then_ (symbol n) (λ l. then_ (form n) (λ f. then_ (xop_flags n) (λ g. never_ret _))))

takes_xop : Takes read_xop
unfolding read_xop
takes_xop = takes_then read_open _ takes_open

xops : (n : ℕ) → Never n (read_xops n)
unfolding read_xops
xops n = then_ never_open (λ o. never_many read_xop (xop n) takes_xop n (omega arith))

x64_flags : (n : ℕ) → Never n read_x64_flags
unfolding read_x64_flags
x64_flags n = then_ (flag n (codes "reads")) (λ r. then_ (flag n (codes "writes")) (λ w. then_ (flag n (codes "trap")) (λ t. never_ret _)))

alternate : (n : ℕ) → Never n read_alternate
unfolding read_alternate
alternate n = then_ never_open (λ o. then_ (key n (codes "alt")) (λ h. then_ (symbol n) (λ a. then_ (symbol n) (λ f. then_ never_close (λ c. never_ret _)))))

some_alt : (n : ℕ) → Never n read_some_alt
unfolding read_some_alt
some_alt n = then_ (alternate n) (λ a. then_ never_close (λ c. never_ret (Some a)))

alt : (n : ℕ) → Never n read_alt
unfolding read_alt
alt n = never_peek is_close (bind read_close (λ c. Ret None)) read_some_alt (then_ never_close (λ c. never_ret None)) (some_alt n)

front : (n : ℕ) → Never n (read_x64_front n)
unfolding read_x64_front
front n = then_ (symbol n) (λ m. then_ (symbol n) (λ a. then_ (xops n) (λ xs. never_ret _)))

x64 : (n : ℕ) → Never n (read_x64 n)
unfolding read_x64
x64 n = then_ (front n) (λ f. then_ (x64_flags n) (λ g. then_ (alt n) (λ a. never_ret _)))

-- ---- the interpreter

binary : (n : ℕ) → Never n read_binary
unfolding read_binary read_first
binary n = then_ (then_ (symbol n) (λ a. never_ret _)) (λ t. then_ (never_words_from more_operands 2 t) (λ u. then_ never_close (λ c. never_ret (u ++ codes " >"))))

shape_after : (n : ℕ) (b : Bool) → Never n (read_shape_after b)
unfolding read_shape_after
shape_after n true = binary n
shape_after n false = then_ never_close (λ c. never_ret _)

shape : (n : ℕ) → Never n read_shape
unfolding read_shape read_shape_head
shape n = then_ never_open (λ o. then_ (never_word shape_of) (λ h. shape_after n h))

field_type : (n : ℕ) → Never n read_field_type
unfolding read_field_type
field_type n = never_peek is_open read_shape read_symbol (shape n) (symbol n)

field : (n : ℕ) → Never n read_field
unfolding read_field
field n = then_ never_open (λ o. then_ (symbol n) (λ x. then_ (field_type n) (λ t. then_ never_close (λ c. never_ret (x, t)))))

takes_field : Takes read_field
unfolding read_field
takes_field = takes_then read_open _ takes_open

op : (n : ℕ) → Never n (read_op n)
unfolding read_op
op n = then_ (symbol n) (λ s. then_ (symbol n) (λ a. then_ (never_many read_field (field n) takes_field n (omega arith)) (λ fs. never_ret _)))

-- ---- items

item_after : (n : ℕ) (h : ItemHead) → Never n (read_item_after n h)
unfolding read_item_after
item_after n head.Format = format n
item_after n head.Inst = inst n
item_after n head.X64 = x64 n
item_after n head.Op = then_ (op n) (λ i. never_ret _)
item_after n head.ExtOp = then_ (op n) (λ i. never_ret _)

item : (n : ℕ) → Never n (read_item n)
unfolding read_item read_item_head
item n = then_ never_open (λ o. then_ (never_word item_head_of) (λ h. item_after n h))

takes_item : (n : ℕ) → Takes (read_item n)
unfolding read_item
takes_item n = takes_then read_open _ takes_open

-- with all tokens counted, items are never too deep
pub items : (n : ℕ) → Never n (read_items n)
unfolding read_items
items n = never_all (read_item n) (item n) (takes_item n) n (omega arith)
