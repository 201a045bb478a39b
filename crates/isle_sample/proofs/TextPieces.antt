-- Pieces of a text, with the bytes and the tokens of each.
use Rattle.std.specs.Prelude.{◌≡◌, ℕ, ◌+◌, ◌<◌, List, [], ◌∷◌, ◌++◌, length, Bool, true, false, ◌&&◌}
use Rattle.std.specs.List.{list_all}
use Rattle.isle_lexer.specs.Token.{is_blank, is_word_byte}
use Rattle.isle_lexer.specs.Lexeme.{Lexeme, Open, Close, Word}

-- a blank byte, a parenthesis, or a word
pub data Piece : Type 0 where
  Blank : (byte : ℕ) → Piece
  Opens : Piece
  Closes : Piece
  Spelt : (word : List ℕ) → Piece

-- its bytes
abbrev pub piece_bytes : Piece → List ℕ
piece_bytes (Blank byte) = byte ∷ []
piece_bytes Opens = 40 ∷ []
piece_bytes Closes = 41 ∷ []
piece_bytes (Spelt word) = word

-- those of pieces in order
abbrev pub bytes_of : List Piece → List ℕ
bytes_of [] = []
bytes_of (p ∷ ps) = piece_bytes p ++ bytes_of ps

-- the tokens of pieces, the first at this place
abbrev pub lexemes_at : ℕ → List Piece → List Lexeme
lexemes_at at [] = []
lexemes_at at (Blank byte ∷ ps) = lexemes_at (at + 1) ps
lexemes_at at (Opens ∷ ps) = Open at ∷ lexemes_at (at + 1) ps
lexemes_at at (Closes ∷ ps) = Close at ∷ lexemes_at (at + 1) ps
lexemes_at at (Spelt word ∷ ps) = Word at word ∷ lexemes_at (at + length word) ps

-- one byte or more, each of which may stand in a word
abbrev pub IsWord : List ℕ → Type 0
IsWord word = (0 < length word) × (list_all is_word_byte word ≡ true)

-- a piece follows
abbrev pub goes_on : List Piece → Bool
goes_on [] = false
goes_on (p ∷ ps) = true

-- a piece follows that is no word
abbrev pub ends_word : List Piece → Bool
ends_word [] = false
ends_word (Blank byte ∷ ps) = true
ends_word (Opens ∷ ps) = true
ends_word (Closes ∷ ps) = true
ends_word (Spelt word ∷ ps) = false

-- blanks are blank; no word stands last or next to another, and no opening parenthesis stands last
abbrev pub are_apart : List Piece → Bool
are_apart [] = true
are_apart (Blank byte ∷ ps) = is_blank byte && are_apart ps
are_apart (Opens ∷ ps) = goes_on ps && are_apart ps
are_apart (Closes ∷ ps) = are_apart ps
are_apart (Spelt word ∷ ps) = ends_word ps && are_apart ps

-- words are words
abbrev pub AreWords : List Piece → Type 0
AreWords [] = Unit {0}
AreWords (Blank byte ∷ ps) = AreWords ps
AreWords (Opens ∷ ps) = AreWords ps
AreWords (Closes ∷ ps) = AreWords ps
AreWords (Spelt word ∷ ps) = IsWord word × AreWords ps
