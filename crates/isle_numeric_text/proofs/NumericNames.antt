-- The names of types, and terms whose names begin with one: each is a name, and no flag.
use Rattle.std.proofs.Common.{◌≡◌, ℕ, List, ◌∷◌, ◌++◌, Bool, true, false, codes, bytes_eq, refl, arith}
use Rattle.std.specs.Prelude.{slice_index}
use Rattle.isle_lexer.specs.Word.{is_flag}
use Rattle.isle_core.specs.Int.{type_name}
use Rattle.isle_core.specs.declared.types.IntType.{IntType}
use Rattle.isle_core.specs.declared.types.IntType.TheVariants.{U8, U16, U32, U64, U128, USize, I8, I16, I32, I64, I128, ISize}
use Rattle.isle_ast.specs.Tree as tree
use Rattle.isle_numerics.specs.Definitions.{flagged, prefixed}
use Rattle.isle_writing.specs.Writable.{IsPlain, IsWord, NamesOne, IsPattern}
use Rattle.isle_writing.proofs.Names.{begins_symbol, names_one, plain_joined, plain_variable, term_head, word_joined}

-- a word, and whatever follows it: it begins a name that is no flag, and not `and`
pub record Begins (w : List ℕ) : Type 0 where
  pub word : IsWord w
  pub named : NamesOne w
  pub symbol : (rest : List ℕ) → begins_symbol (slice_index (w ++ rest) 0) ≡ true
  pub no_flag : (rest : List ℕ) → is_flag (w ++ rest) ≡ false
  pub no_and : (rest : List ℕ) → bytes_eq (w ++ rest) (codes "and") ≡ false

-- ---- types

from_u : (tail : List ℕ) → IsWord (117 ∷ tail) → Begins (117 ∷ tail)
from_u tail h = record { word = h; named = names_one (117 ∷ tail) h refl; symbol = λ rest. refl; no_flag = λ rest. refl; no_and = λ rest. refl }

from_i : (tail : List ℕ) → IsWord (105 ∷ tail) → Begins (105 ∷ tail)
from_i tail h = record { word = h; named = names_one (105 ∷ tail) h refl; symbol = λ rest. refl; no_flag = λ rest. refl; no_and = λ rest. refl }

pub type_begins : (t : IntType) → Begins (type_name t)
type_begins U8 = from_u (codes "8") (omega arith, refl)
type_begins U16 = from_u (codes "16") (omega arith, refl)
type_begins U32 = from_u (codes "32") (omega arith, refl)
type_begins U64 = from_u (codes "64") (omega arith, refl)
type_begins U128 = from_u (codes "128") (omega arith, refl)
type_begins USize = from_u (codes "size") (omega arith, refl)
type_begins I8 = from_i (codes "8") (omega arith, refl)
type_begins I16 = from_i (codes "16") (omega arith, refl)
type_begins I32 = from_i (codes "32") (omega arith, refl)
type_begins I64 = from_i (codes "64") (omega arith, refl)
type_begins I128 = from_i (codes "128") (omega arith, refl)
type_begins ISize = from_i (codes "size") (omega arith, refl)

pub bool_named : NamesOne (codes "bool")
bool_named = names_one (codes "bool") (omega arith, refl) refl

pub u32_named : NamesOne (codes "u32")
u32_named = (type_begins U32).named

-- ---- terms

-- a term's name, which is no flag
pub record IsTermWord (term : List ℕ) : Type 0 where
  pub named : NamesOne term
  pub no_flag : is_flag term ≡ false

prefixed_word : (w word : List ℕ) → Begins w → IsPlain word → IsWord (prefixed w word)
prefixed_word w word h k = word_joined w (codes "_" ++ word) h.word (plain_joined (codes "_") word refl k)

pub prefixed_term : (w word : List ℕ) → Begins w → IsPlain word → IsTermWord (prefixed w word)
prefixed_term w word h k =
    record { named = names_one (prefixed w word) (prefixed_word w word h k) (h.symbol (codes "_" ++ word)); no_flag = h.no_flag (codes "_" ++ word) }

-- the pattern that wants a flag of such a term
pub flagged_pattern : (w word : List ℕ) (flag : Bool) → Begins w → IsPlain word → IsPattern (flagged (prefixed w word) flag)
flagged_pattern w word flag h k =
    (prefixed_word w word h k, term_head (prefixed w word) (h.symbol (codes "_" ++ word)) (h.no_and (codes "_" ++ word)), (tt, tt))

-- ---- the variable of an extractor

pub x_named : NamesOne (codes "x")
x_named = names_one (codes "x") (omega arith, refl) refl

pub x_variable : IsPattern (tree.Var (codes "x"))
x_variable = plain_variable (codes "x") (omega arith, refl) refl refl
