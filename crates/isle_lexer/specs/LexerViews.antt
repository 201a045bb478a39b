-- What contracts see of the lexer's states, and of what it finds.
use Rattle.std.specs.Prelude.{◌≡◌, ℕ, ◌<◌, ◌≤◌, List, [], Some, None, length}
use Rattle.isle_lexer.specs.declared.comments.Seen.{Seen as CodeSeen}
use Rattle.isle_lexer.specs.declared.comments.Seen.TheVariants as code_seen
use Rattle.isle_lexer.specs.declared.finding.Piece.{Piece}
use Rattle.isle_lexer.specs.declared.finding.Piece.TheVariants as code_piece
use Rattle.isle_lexer.specs.declared.finding.Found.{Found}
use Rattle.isle_lexer.specs.declared.finding.Found.TheVariants as code_found
use Rattle.isle_lexer.specs.declared.bytes.Begun.{Begun}
use Rattle.isle_lexer.specs.declared.bytes.Begun.TheVariants as code_begun
use Rattle.isle_lexer.specs.Token.{Seen, Other, OpenSeen, SemicolonSeen, State, Between, InWord, AfterOpen, AfterSingle, InLine, coming, in_front}

-- what was seen
abbrev pub seen : CodeSeen → Seen
seen code_seen.Other = Other
seen code_seen.Open = OpenSeen
seen code_seen.Semicolon = SemicolonSeen

-- the piece stands at the place
abbrev pub IsPiece : List ℕ → ℕ → Piece → Type 0
IsPiece text at (code_piece.Skip to) = (coming text Between at ≡ coming text Between to) × (at < to) × (to ≤ length text)
IsPiece text at (code_piece.Token to) = (coming text Between at ≡ in_front (record { from = at; to = to }) (coming text Between to)) × (at < to) × (to ≤ length text)
IsPiece text at code_piece.Unclosed = coming text Between at ≡ record { tokens = []; unclosed = Some at }

-- this is the first of what comes of a text from the place on
abbrev pub IsFirst : List ℕ → ℕ → Found → Type 0
IsFirst text at (code_found.Token tok) = (coming text Between at ≡ in_front tok (coming text Between tok.to)) × (at < tok.to) × (tok.to ≤ length text)
IsFirst text at (code_found.Unclosed from) = coming text Between at ≡ record { tokens = []; unclosed = Some from }
IsFirst text at code_found.End = coming text Between at ≡ record { tokens = []; unclosed = None }

-- what was begun at a place
abbrev pub begins : Begun → ℕ → State
begins code_begun.Nothing at = Between
begins code_begun.Open at = AfterOpen at
begins code_begun.Single at = AfterSingle at
begins code_begun.Line at = InLine
begins code_begun.Word at = InWord at
