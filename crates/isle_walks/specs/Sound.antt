-- How far a search in depth has come: its nodes that are done stand in an order.
use Rattle.std.specs.Prelude.{◌≡◌, ℕ, ◌<◌, ◌≤◌, List, [], length, Bool, true, false, eqb, slice_index, slice_index_or, Contains, ◌⊎◌}
use Rattle.std.specs.List.{list_any, IsDistinct}
use Rattle.isle_walks.specs.Walks.{next_of, on_closed_walk, IsOrdered}
use Rattle.isle_walks.specs.Ways.{IsWay}
use Rattle.isle_walks.specs.declared.depth_first.DepthFirst.{DepthFirst}

-- whether a node is among these
abbrev pub has : List ℕ → ℕ → Bool
has nodes node = list_any (eqb node) nodes

-- all nodes that a node leads to are among these
abbrev pub LeadsInto : List (List ℕ) → (nodes : List ℕ) → ℕ → Type 0
LeadsInto graph nodes node = (next : ℕ) → Contains (next_of graph node) next → has nodes next ≡ true

-- the first so many nodes of a list are among these
abbrev pub AreFirstIn : (nodes : List ℕ) → List ℕ → ℕ → Type 0
AreFirstIn nodes list many = (place : ℕ) → place < many → has nodes (slice_index list place) ≡ true

-- of a graph's nodes, how many that each leads to are looked at, and whether it is done; those looked at are done, and those done are in order, once each
pub record IsSoundAt (graph : List (List ℕ)) (looked : List ℕ) (done : List Bool) (order : List ℕ) : Type 0 where
  pub places : length looked ≡ length graph
  pub marks : length done ≡ length graph
  pub marked : (node : ℕ) → slice_index_or done node false ≡ has order node
  pub within : (node : ℕ) → slice_index looked node ≤ length (next_of graph node)
  pub firsts : (node : ℕ) → AreFirstIn order (next_of graph node) (slice_index looked node)
  pub ordered : IsOrdered graph [] order
  pub once : IsDistinct eqb order

-- the same of a search
abbrev pub IsSound : List (List ℕ) → DepthFirst → Type 0
IsSound graph found = IsSoundAt graph found.looked.items found.done.items found.order.items

-- an order grew
abbrev pub Grows : (old new : List ℕ) → Type 0
Grows old new = (node : ℕ) → has old node ≡ true → has new node ≡ true

-- what a search tells of a node: it is done, and the search is sound and has lost none; or a node is on a closed walk
abbrev pub IsFinished : List (List ℕ) → (old new : DepthFirst) → (node : ℕ) → Bool → Type 0
IsFinished graph old new node true = IsSound graph new × Grows old.order.items new.order.items × (has new.order.items node ≡ true)
IsFinished graph old new node false = (on : ℕ) × (on_closed_walk graph on ≡ true)

-- what trying a node leaves: it is done, or else the order is as it was
abbrev pub IsTried : List (List ℕ) → (old new : DepthFirst) → (node : ℕ) → Bool → Type 0
IsTried graph old new node true = IsFinished graph old new node true
IsTried graph old new node false = IsSound graph new × (new.order.items ≡ old.order.items)

-- a path of nodes that are there and not done, each leading to the next; it has this start, unless that is done
pub record IsOpen (graph : List (List ℕ)) (order path : List ℕ) (start : ℕ) : Type 0 where
  pub way : IsWay graph path
  pub few : length path ≤ length graph
  pub there : (node : ℕ) → Contains path node → node < length graph
  pub left : (node : ℕ) → Contains path node → has order node ≡ false
  pub held : (has order start ≡ true) ⊎ Contains path start
