-- Pieces of a text, with the bytes and the tokens of each.
use Rattle.std.specs.Prelude.{◌≡◌, ℕ, ◌+◌, List, [], ◌∷◌, ◌++◌, length, Bool, true, false}
use Rattle.isle_lexer.specs.Token.{is_blank}
use Rattle.isle_lexer.specs.Lexeme.{Lexeme, Open, Close, At, Word}
use Rattle.isle_writing.specs.Writable.{IsWord}

-- a blank byte, a parenthesis, an `@`, or a word
pub data Piece : Type 0 where
  Blank : (byte : ℕ) → Piece
  Opens : Piece
  Closes : Piece
  Sign : Piece
  Spelt : (word : List ℕ) → Piece

-- the bytes of pieces in order
abbrev pub bytes_of : List Piece → List ℕ
bytes_of [] = []
bytes_of (Blank byte ∷ ps) = byte ∷ bytes_of ps
bytes_of (Opens ∷ ps) = 40 ∷ bytes_of ps
bytes_of (Closes ∷ ps) = 41 ∷ bytes_of ps
bytes_of (Sign ∷ ps) = 64 ∷ bytes_of ps
bytes_of (Spelt word ∷ ps) = word ++ bytes_of ps

-- their tokens, the first at this place
abbrev pub lexemes_at : ℕ → List Piece → List Lexeme
lexemes_at at [] = []
lexemes_at at (Blank byte ∷ ps) = lexemes_at (at + 1) ps
lexemes_at at (Opens ∷ ps) = Open at ∷ lexemes_at (at + 1) ps
lexemes_at at (Closes ∷ ps) = Close at ∷ lexemes_at (at + 1) ps
lexemes_at at (Sign ∷ ps) = At at ∷ lexemes_at (at + 1) ps
lexemes_at at (Spelt word ∷ ps) = Word at word ∷ lexemes_at (at + length word) ps

-- a piece follows that is no word
abbrev pub ends_word : List Piece → Bool
ends_word [] = false
ends_word (Blank byte ∷ ps) = true
ends_word (Opens ∷ ps) = true
ends_word (Closes ∷ ps) = true
ends_word (Sign ∷ ps) = true
ends_word (Spelt word ∷ ps) = false

-- blanks are blank, words are words, and no word stands last or next to another
abbrev pub AreApart : List Piece → Type 0
AreApart [] = Unit {0}
AreApart (Blank byte ∷ ps) = (is_blank byte ≡ true) × AreApart ps
AreApart (Opens ∷ ps) = AreApart ps
AreApart (Closes ∷ ps) = AreApart ps
AreApart (Sign ∷ ps) = AreApart ps
AreApart (Spelt word ∷ ps) = IsWord word × ((ends_word ps ≡ true) × AreApart ps)
