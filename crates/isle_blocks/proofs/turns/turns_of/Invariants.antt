use Rattle.std.proofs.Common.{◌≡◌, length}
use Rattle.isle_blocks.proofs.TurnLaws.{RiseTo}
use Rattle.isle_blocks.proofs.turns.turns_of.Given as goal

abbrev pub invariant-loop-binding : goal.invariant-loop-binding
invariant-loop-binding l = record {
  long : length l.turns.items ≡ l.binding-index;
  rise : RiseTo l.binding-index l.bindings l.turns.items;
}
