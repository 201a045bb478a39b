-- Where a text that spells no answers file goes wrong.
use Rattle.std.specs.Prelude.{◌≡◌, ℕ, List, length, true, Some}
use Rattle.isle_lexer.specs.Lexeme.{Lexeme, lexemes}
use Rattle.isle_lexer.specs.Token.{IsClosed, unclosed}
use Rattle.isle_reading.specs.Places.{IsFaultAt}
use Rattle.isle_answers.specs.Form.{Form}
use Rattle.isle_answers.specs.Spelling.{FormsS}

-- the tokens are the forms of an answers file, however deep they nest
abbrev pub AreForms : List Lexeme → Type 0
AreForms ts = (forms : List Form) × FormsS true forms ts

-- the place of a fault of a text
pub data IsFault (text : List ℕ) (at : ℕ) : Type 0 where
  -- the start of a comment that never ends
  comment : unclosed text ≡ Some at → IsFault text at
  -- the place where its tokens go wrong
  tokens : IsClosed text → IsFaultAt AreForms (lexemes text) (length text) at → IsFault text at
