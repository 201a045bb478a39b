-- Where a text goes wrong that spells no tables.
use Rattle.std.specs.Prelude.{◌≡◌, ℕ, List, [], ◌∷◌, ◌++◌, length, Some}
use Rattle.isle_lexer.specs.Lexeme.{Lexeme, lexemes}
use Rattle.isle_lexer.specs.Token.{IsClosed, unclosed}
use Rattle.isle_reading.specs.Combinators.{place}
use Rattle.isle_reading.specs.Places.{Starts}
use Rattle.isle_tables.specs.declared.item.Item.{Item}
use Rattle.isle_tables.specs.Grammar.{ItemsS}
use Rattle.isle_tables.specs.Resolved.{lost_of}

-- the tokens are items
abbrev pub AreItems : List Lexeme → Type 0
AreItems ts = (items : List Item) × ItemsS items ts

-- the place in a text of that length where tokens go wrong: of the first token such that those up to it begin no items, or else the length
pub data GoesWrongAt (ts : List Lexeme) (end : ℕ) : ℕ → Type 0 where
  wrong : (front behind : List Lexeme) (t : Lexeme) → ts ≡ front ++ t ∷ behind → Starts AreItems front → (Starts AreItems (front ++ t ∷ []) → ⊥) → GoesWrongAt ts end (place t)
  short : Starts AreItems ts → (AreItems ts → ⊥) → GoesWrongAt ts end end

-- the place where a text goes wrong
pub data IsTablesFault (text : List ℕ) (at : ℕ) : Type 0 where
  -- the start of a comment that never ends
  comment : unclosed text ≡ Some at → IsTablesFault text at
  -- where its tokens go wrong
  tokens : IsClosed text → GoesWrongAt (lexemes text) (length text) at → IsTablesFault text at
  -- the first FORMAT that names no format
  lost : (items : List Item) → IsClosed text → ItemsS items (lexemes text) → lost_of items ≡ Some at → IsTablesFault text at
