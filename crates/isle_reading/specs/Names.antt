-- Names.
use Rattle.std.specs.Prelude.{ℕ, List, ◌∷◌, if◌then◌else◌, Option, Some, None}
use Rattle.isle_lexer.specs.Lexeme.{Lexeme, Word}
use Rattle.isle_lexer.specs.Word.{kind, names, IsName}
use Rattle.isle_reading.specs.Reader.{Reader}
use Rattle.isle_reading.specs.Combinators.{read_word}

-- a name, which is a word
pub data NameS : List ℕ → List Lexeme → List Lexeme → Type 0 where
  symbol : (at : ℕ) (w : List ℕ) (ts : List Lexeme) → IsName w → NameS w (Word at w ∷ ts) ts

-- a word that may stand as a name
abbrev pub name_of : List ℕ → Option (List ℕ)
name_of w = if names (kind w) then Some w else None

-- a name
unfoldable pub read_name : Reader (List ℕ)
read_name = read_word name_of
