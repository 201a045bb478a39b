-- Tokens with their bytes, as the grammar sees them.
use Rattle.std.specs.Prelude.{ℕ, List, ◌==◌, if◌then◌else◌, map, slice_index, slice_range}
use Rattle.isle_lexer.specs.Token.{Tok, tokens_of}

-- a token, with the place where it begins
pub data Lexeme : Type 0 where
  Open : (at : ℕ) → Lexeme
  Close : (at : ℕ) → Lexeme
  At : (at : ℕ) → Lexeme
  Less : (at : ℕ) → Lexeme
  Greater : (at : ℕ) → Lexeme
  Word : (at : ℕ) (bytes : List ℕ) → Lexeme

-- a token of a text, by its first byte: ( ) @ < > , or else a word
abbrev pub lexeme : List ℕ → Tok → Lexeme
lexeme text tok =
    if slice_index text tok.from == 40 then Open tok.from
    else (if slice_index text tok.from == 41 then Close tok.from
    else (if slice_index text tok.from == 64 then At tok.from
    else (if slice_index text tok.from == 60 then Less tok.from
    else (if slice_index text tok.from == 62 then Greater tok.from
    else Word tok.from (slice_range text tok.from tok.to)))))

-- the tokens of a text with their bytes, in order
abbrev pub lexemes : List ℕ → List Lexeme
lexemes text = map (lexeme text) (tokens_of text)
