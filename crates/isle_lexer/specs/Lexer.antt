-- What a reader reads.
use Rattle.std.specs.Prelude.{◌≡◌, ℕ, List}
use Rattle.isle_lexer.specs.Token.{Tok, tokens_from}
use Rattle.isle_lexer.specs.declared.lexer.Lexer.{Lexer}

-- the number of the file
abbrev pub lexer_file : Lexer → ℕ
lexer_file lexer = lexer.file

-- the text
abbrev pub lexer_text : Lexer → List ℕ
lexer_text lexer = lexer.text.now

-- the tokens that are still to come
abbrev pub lexer_left : Lexer → List Tok
lexer_left lexer = tokens_from lexer.text.now lexer.at

-- no token was taken
abbrev pub IsUntaken : Lexer → Type 0
IsUntaken lexer = lexer.at ≡ 0
