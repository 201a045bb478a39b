use Rattle.std.proofs.Common.{◌≡◌, ◌<◌, ℕ, slice_index}
use Rattle.isle_walks.specs.Parts.{mark_of}
use Rattle.isle_walks.proofs.parts.mark_all.Given as goal

abbrev pub invariant-loop-node : goal.invariant-loop-node
invariant-loop-node l = record {
  marked : (place : ℕ) → place < l.node-index → mark_of l.marks (slice_index l.nodes place) ≡ l.mark;
  same : (other : ℕ) → ((place : ℕ) → place < l.node-index → slice_index l.nodes place ≡ other → ⊥) → mark_of l.marks other ≡ mark_of l.fn.marks other;
}
