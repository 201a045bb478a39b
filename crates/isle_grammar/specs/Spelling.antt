-- When a text spells definitions.
use Rattle.std.specs.Prelude.{◌≡◌, ℕ, ◌≤◌, List, Some, length}
use Rattle.std.specs.Str.{IsUtf8}
use Rattle.isle_lexer.specs.Token.{unclosed, IsClosed}
use Rattle.isle_lexer.specs.Lexeme.{Lexeme, lexemes}
use Rattle.isle_reading.specs.Nesting.{depth, most_open}
use Rattle.isle_reading.specs.Places.{IsFaultAt}
use Rattle.isle_grammar.specs.Grammar.{FileS}
use Rattle.isle_ast.specs.Tree.{Def}

-- the tokens spell some definitions
abbrev pub IsFile : ℕ → List Lexeme → Type 0
IsFile file ts = (defs : List Def) × FileS file ts defs

-- the tokens, read as those of the file of that number, spell the definitions
pub record SpellsTokens (file : ℕ) (ts : List Lexeme) (defs : List Def) : Type 0 where
  pub shallow : depth ts ≤ most_open
  pub definitions : FileS file ts defs

-- the text, read as the file of that number, spells the definitions
pub record Spells (file : ℕ) (text : List ℕ) (defs : List Def) : Type 0 where
  pub utf8 : IsUtf8 text
  pub closed : IsClosed text
  pub tokens : SpellsTokens file (lexemes text) defs

-- the text of the file of that number goes wrong at this place
pub data IsTextFault (file : ℕ) (text : List ℕ) (at : ℕ) : Type 0 where
  -- a comment that begins there never ends, which goes before every other fault
  open_comment : unclosed text ≡ Some at → IsTextFault file text at
  -- its tokens go wrong there: the first byte of a token, or the text's end if a token is missing
  bad_tokens : IsClosed text → IsFaultAt (IsFile file) (lexemes text) (length text) at → IsTextFault file text at
