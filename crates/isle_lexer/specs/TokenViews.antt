-- What contracts see of the code's tokens.
use Rattle.isle_lexer.specs.declared.token.Token.{Token}
use Rattle.isle_lexer.specs.declared.token.Token.TheVariants as code
use Rattle.isle_lexer.specs.Lexeme.{Lexeme, Open, Close, At, Less, Greater, Word}

-- a token
abbrev pub token_seen : Token → Lexeme
token_seen (code.Open at) = Open at
token_seen (code.Close at) = Close at
token_seen (code.At at) = At at
token_seen (code.Less at) = Less at
token_seen (code.Greater at) = Greater at
token_seen (code.Word at word) = Word at word.now
