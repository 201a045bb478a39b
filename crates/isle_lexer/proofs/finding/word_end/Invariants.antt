use Rattle.std.proofs.Common.{◌≡◌, ℕ}
use Rattle.isle_lexer.specs.Token.{InWord, coming}
use Rattle.isle_lexer.proofs.finding.word_end.Given as goal

abbrev pub invariant-loop-place : goal.invariant-loop-place
invariant-loop-place l = (from : ℕ) → coming l.text (InWord from) l.at ≡ coming l.text (InWord from) l.place
