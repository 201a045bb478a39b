use Rattle.std.proofs.Common.{length, ◌-◌, ◌≡◌, ◌≤◌}
use Rattle.isle_lexer.specs.Token.{Between, coming}
use Rattle.isle_lexer.proofs.finding.find.Given as goal

abbrev pub invariant-loop-at : goal.invariant-loop-at
invariant-loop-at l = record {
  comes : coming l.text Between l.from ≡ coming l.text Between l.at;
  forward : l.from ≤ l.at;
}

abbrev pub decreases-loop-at : goal.decreases-loop-at
decreases-loop-at l = length l.text - l.at
