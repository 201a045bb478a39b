use Rattle.std.proofs.Common.{◌≡◌, ◌≤◌, ◌+◌, ◌-◌, length}
use Rattle.isle_lexer.specs.Token.{Between, coming, unclosed, tokens_from, tokens_of}
use Rattle.isle_lexer.proofs.counting.counted.Given as goal

abbrev pub invariant-loop-tok : goal.invariant-loop-tok
invariant-loop-tok l = record {
  unclosed : unclosed l.text ≡ (coming l.text Between l.at).unclosed;
  tokens : l.count + length (tokens_from l.text l.at) ≡ length (tokens_of l.text);
  small : l.count ≤ l.at;
}

abbrev pub decreases-loop-tok : goal.decreases-loop-tok
decreases-loop-tok l = length l.text - l.at
