-- The names that files of instructions have whatever their tables are.
use Rattle.std.proofs.Common.{◌≡◌, ℕ, List, ◌++◌, true, false, Some, refl, codes, arith}
use Rattle.std.specs.Prelude.{slice_index}
use Rattle.std.specs.Str.{bytes_eq}
use Rattle.isle_grammar.specs.Grammar.{IsCall, IsTerm, expr_head, pattern_head}
use Rattle.isle_lexer.specs.Word.{is_let}
use Rattle.isle_printer.specs.Number.{numeral}
use Rattle.isle_prelude.specs.NumberedNames.{block_array, block_array_type, pack, unpack, unwrap_head, value_array, value_array_ctor, value_array_type}
use Rattle.isle_writing.specs.Writable.{IsPlain, IsWord, NamesOne}
use Rattle.isle_writing.proofs.Names.{begins_symbol, call_head, names_one, numeral_plain, term_head, word_joined}

-- ---- words that are written out

pub value_named : NamesOne (codes "Value")
value_named = names_one (codes "Value") (omega arith, refl) refl

pub inst_named : NamesOne (codes "Inst")
inst_named = names_one (codes "Inst") (omega arith, refl) refl

pub type_named : NamesOne (codes "Type")
type_named = names_one (codes "Type") (omega arith, refl) refl

pub slice_named : NamesOne (codes "ValueSlice")
slice_named = names_one (codes "ValueSlice") (omega arith, refl) refl

pub list_named : NamesOne (codes "ValueList")
list_named = names_one (codes "ValueList") (omega arith, refl) refl

pub call_named : NamesOne (codes "BlockCall")
call_named = names_one (codes "BlockCall") (omega arith, refl) refl

pub block_named : NamesOne (codes "Block")
block_named = names_one (codes "Block") (omega arith, refl) refl

pub opcode_named : NamesOne (codes "Opcode")
opcode_named = names_one (codes "Opcode") (omega arith, refl) refl

pub data_named : NamesOne (codes "InstructionData")
data_named = names_one (codes "InstructionData") (omega arith, refl) refl

pub flags_named : NamesOne (codes "MemFlagsData")
flags_named = names_one (codes "MemFlagsData") (omega arith, refl) refl

-- ---- terms of patterns and of expressions

-- a word that is a term in both
pub record IsHead (w : List ℕ) : Type 0 where
  pub word : IsWord w
  pub taken : pattern_head w ≡ Some (IsTerm w)
  pub made : expr_head w ≡ Some (IsCall w)

-- a word that begins as neither `and` nor `let` does
pub head_from : (w : List ℕ) → IsWord w → begins_symbol (slice_index w 0) ≡ true → bytes_eq w (codes "and") ≡ false → is_let w ≡ false → IsHead w
head_from w h k a l = record { word = h; taken = term_head w k a; made = call_head w k l }

pub slice_head : IsHead (codes "value_list_slice")
slice_head = head_from (codes "value_list_slice") (omega arith, refl) refl refl refl

-- the term of a variant of opcodes
pub opcode_head : (name : List ℕ) → IsPlain name → IsHead (codes "Opcode." ++ name)
opcode_head name h = head_from (codes "Opcode." ++ name) (word_joined (codes "Opcode.") name (omega arith, refl) h) refl refl refl

-- and of instructions' data
pub data_head : (name : List ℕ) → IsPlain name → IsHead (codes "InstructionData." ++ name)
data_head name h = head_from (codes "InstructionData." ++ name) (word_joined (codes "InstructionData.") name (omega arith, refl) h) refl refl refl

-- ---- names that end in a number

pub values_word : (n : ℕ) → IsWord (value_array n)
unfolding value_array
values_word n = word_joined (codes "value_array_") (numeral 10 n) (omega arith, refl) (numeral_plain n)

pub values_named : (n : ℕ) → NamesOne (value_array n)
unfolding value_array
values_named n = names_one (value_array n) (values_word n) refl

pub values_head : (n : ℕ) → IsHead (value_array n)
unfolding value_array
values_head n = head_from (value_array n) (values_word n) refl refl refl

pub values_type_named : (n : ℕ) → NamesOne (value_array_type n)
unfolding value_array_type
values_type_named n = names_one (value_array_type n) (word_joined (codes "ValueArray") (numeral 10 n) (omega arith, refl) (numeral_plain n)) refl

ctor_word : (n : ℕ) → IsWord (value_array_ctor n)
unfolding value_array_ctor
ctor_word n = word_joined (value_array n) (codes "_ctor") (values_word n) refl

pub ctor_named : (n : ℕ) → NamesOne (value_array_ctor n)
unfolding value_array value_array_ctor
ctor_named n = names_one (value_array_ctor n) (ctor_word n) refl

pub ctor_head : (n : ℕ) → IsHead (value_array_ctor n)
unfolding value_array value_array_ctor
ctor_head n = head_from (value_array_ctor n) (ctor_word n) refl refl refl

pub blocks_word : (n : ℕ) → IsWord (block_array n)
unfolding block_array
blocks_word n = word_joined (codes "block_array_") (numeral 10 n) (omega arith, refl) (numeral_plain n)

pub blocks_named : (n : ℕ) → NamesOne (block_array n)
unfolding block_array
blocks_named n = names_one (block_array n) (blocks_word n) refl

pub blocks_head : (n : ℕ) → IsHead (block_array n)
unfolding block_array
blocks_head n = head_from (block_array n) (blocks_word n) refl refl refl

pub blocks_type_named : (n : ℕ) → NamesOne (block_array_type n)
unfolding block_array_type
blocks_type_named n = names_one (block_array_type n) (word_joined (codes "BlockArray") (numeral 10 n) (omega arith, refl) (numeral_plain n)) refl

pub unwrap_is_head : (n : ℕ) → IsHead (unwrap_head n)
unfolding unwrap_head
unwrap_is_head n = head_from (unwrap_head n) (word_joined (codes "unwrap_head_value_list_") (numeral 10 n) (omega arith, refl) (numeral_plain n)) refl refl refl

-- ---- the functions of a term

pub pack_named : (w : List ℕ) → IsWord w → NamesOne (pack w)
pack_named w h = names_one (pack w) (word_joined (codes "pack_") w (omega arith, refl) h.1) refl

pub unpack_named : (w : List ℕ) → IsWord w → NamesOne (unpack w)
unpack_named w h = names_one (unpack w) (word_joined (codes "unpack_") w (omega arith, refl) h.1) refl
