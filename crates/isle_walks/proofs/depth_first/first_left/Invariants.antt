use Rattle.std.proofs.Common.{◌≡◌, ◌<◌, ◌≤◌, ℕ, slice_index, slice_index_or, true, false}
use Rattle.isle_walks.proofs.depth_first.first_left.Given as goal

abbrev pub invariant-loop-place : goal.invariant-loop-place
invariant-loop-place l = (place : ℕ) → l.from ≤ place → place < l.place → slice_index_or l.done (slice_index l.nodes place) false ≡ true
