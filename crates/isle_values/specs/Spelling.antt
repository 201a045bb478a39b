-- When a text spells a list of values: what the tokens begin with, and which tokens stand after it.
use Rattle.std.specs.Prelude.{◌≡◌, ◌≤◌, ℕ, ℤ, List, [], ◌∷◌, true, false, Some, codes}
use Rattle.std.specs.Str.{IsUtf8}
use Rattle.isle_reading.specs.Nesting.{depth, most_open}
use Rattle.isle_lexer.specs.Integer.{signed_of}
use Rattle.isle_lexer.specs.Lexeme.{Lexeme, Open, Close, Word, lexemes}
use Rattle.isle_lexer.specs.Token.{IsClosed}
use Rattle.isle_lexer.specs.Word.{IsName}
use Rattle.isle_values.specs.Written.{Written, Writtens, Truth, Number, Made, NoValue, AValue}

mutual
  -- V
  pub data ValueS : Written → List Lexeme → List Lexeme → Type 0 where
    truth : (at : ℕ) (w : List ℕ) (ts : List Lexeme) → w ≡ codes "true" → ValueS (Truth true) (Word at w ∷ ts) ts
    untruth : (at : ℕ) (w : List ℕ) (ts : List Lexeme) → w ≡ codes "false" → ValueS (Truth false) (Word at w ∷ ts) ts
    number : (at : ℕ) (w : List ℕ) (n : ℤ) (ts : List Lexeme) → signed_of w ≡ Some n → ValueS (Number n) (Word at w ∷ ts) ts
    -- ( N V* )
    made : (at n : ℕ) (w : List ℕ) (parts : Writtens) (ts rest : List Lexeme) → IsName w → ValuesS parts ts rest → ValueS (Made w parts) (Open at ∷ Word n w ∷ ts) rest

  -- V*, and the parenthesis after them
  pub data ValuesS : Writtens → List Lexeme → List Lexeme → Type 0 where
    no_value : (at : ℕ) (ts : List Lexeme) → ValuesS NoValue (Close at ∷ ts) ts
    a_value : (v : Written) (others : Writtens) (ts mid rest : List Lexeme) → ValueS v ts mid → ValuesS others mid rest → ValuesS (AValue v others) ts rest

-- ( V* ) and nothing after it
pub data ListS : Writtens → List Lexeme → Type 0 where
  list : (at : ℕ) (vs : Writtens) (ts : List Lexeme) → ValuesS vs ts [] → ListS vs (Open at ∷ ts)

-- the text spells the values
pub record SpellsValues (text : List ℕ) (vs : Writtens) : Type 0 where
  pub utf8 : IsUtf8 text
  pub closed : IsClosed text
  pub shallow : depth (lexemes text) ≤ most_open
  pub values : ListS vs (lexemes text)
