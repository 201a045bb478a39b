use Rattle.std.proofs.Common.{◌≡◌, ◌<◌, ℕ, true}
use Rattle.isle_walks.specs.Sound.{IsSound, has}
use Rattle.isle_walks.proofs.depth_first.order.Given as goal

abbrev pub invariant-loop-node : goal.invariant-loop-node
invariant-loop-node l = record {
  sound : IsSound l.graph l.search;
  known : (node : ℕ) → node < l.node → has l.search.order.items node ≡ true;
}
