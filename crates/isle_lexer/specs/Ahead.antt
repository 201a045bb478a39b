-- The token that is next, and those after it.
use Rattle.std.specs.Prelude.{ℕ, List, [], ◌∷◌, Option, Some, None, IfSome, map}
use Rattle.isle_lexer.specs.declared.token.Token.{Token}
use Rattle.isle_lexer.specs.Cuts.{AreCuts}
use Rattle.isle_lexer.specs.Lexeme.{Lexeme, lexeme}
use Rattle.isle_lexer.specs.Token.{tokens_from}
use Rattle.isle_lexer.specs.TokenViews.{token_seen}

-- the tokens of a text after a place at which no token was begun, with their bytes
abbrev pub lexemes_from : List ℕ → ℕ → List Lexeme
lexemes_from text at = map (lexeme text) (tokens_from text at)

-- the token that is next, by the place after it, and the tokens after that place; none if none is next
abbrev pub ahead : List ℕ → Option (Token × ℕ) → List Lexeme
ahead text None = []
ahead text (Some next) = token_seen next.0 ∷ lexemes_from text next.1

-- the tokens after the one that is next begin and end between characters
abbrev pub AreCutsAhead : List ℕ → Option (Token × ℕ) → Type 0
AreCutsAhead text next = IfSome next (λ n. AreCuts text (tokens_from text n.1))
