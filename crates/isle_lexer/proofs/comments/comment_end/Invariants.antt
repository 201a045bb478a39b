use Rattle.std.proofs.Common.{◌≡◌, ◌≤◌, ℕ}
use Rattle.isle_lexer.specs.Token.{InComment, Other, coming}
use Rattle.isle_lexer.specs.LexerViews.{seen}
use Rattle.isle_lexer.proofs.comments.comment_end.Given as goal

abbrev pub invariant-loop-place : goal.invariant-loop-place
invariant-loop-place l = record {
  comes : (from : ℕ) → coming l.text (InComment from 0 Other) l.at ≡ coming l.text (InComment from l.outer (seen l.last)) l.place;
  outer : l.outer ≤ l.place;
}
