-- Graphs, which have for each node the nodes that it leads to, and walks in them.
use Rattle.std.specs.Prelude.{◌≡◌, ℕ, zero, suc, ◌<◌, List, [], ◌∷◌, length, Bool, true, false, ◌==◌, ◌||◌, Option, Some, None, slice_get, Contains}
use Rattle.std.specs.List.{list_any}
use Rattle.std.specs.Global.{Vec}

-- the nodes of a list that may be there
abbrev pub nodes_or_none : Option (List ℕ) → List ℕ
nodes_or_none None = []
nodes_or_none (Some nodes) = nodes

-- the nodes that a node leads to; one that is not there leads nowhere
abbrev pub next_of : List (List ℕ) → ℕ → List ℕ
next_of graph node = nodes_or_none (slice_get graph node)

-- a walk of at least one step, and of at most so many, leads from the one node to the other
abbrev pub reaches : List (List ℕ) → (steps : ℕ) → (from to : ℕ) → Bool
reaches graph zero from to = false
reaches graph (suc steps) from to = list_any (λ (next : ℕ). (next == to) || reaches graph steps next to) (next_of graph from)

-- a node is on a closed walk: it reaches itself, through at most as many steps as there are nodes
abbrev pub on_closed_walk : List (List ℕ) → ℕ → Bool
on_closed_walk graph node = reaches graph (length graph) node node

-- a walk of so many steps starts at a node
abbrev pub walks : List (List ℕ) → (steps : ℕ) → (from : ℕ) → Bool
walks graph zero from = true
walks graph (suc steps) from = list_any (walks graph steps) (next_of graph from)

-- each node leads to nodes that are there
abbrev pub AreNodes : List (List ℕ) → Type 0
AreNodes graph = (node next : ℕ) → Contains (next_of graph node) next → next < length graph

-- each node of a list leads only to nodes before it, or to these
abbrev pub IsOrdered : List (List ℕ) → (before : List ℕ) → List ℕ → Type 0
IsOrdered graph before [] = Unit {0}
IsOrdered graph before (node ∷ nodes) = ((next : ℕ) → Contains (next_of graph node) next → Contains before next) × IsOrdered graph (node ∷ before) nodes

-- an order of all nodes, each once, in which each leads only to nodes before it
pub record IsOrder (graph : List (List ℕ)) (order : List ℕ) : Type 0 where
  pub ordered : IsOrdered graph [] order
  pub all : (node : ℕ) → node < length graph → Contains order node
  pub there : (node : ℕ) → Contains order node → node < length graph
  pub many : length order ≡ length graph

-- an order; or there is none, since a node is on a closed walk
abbrev pub IsOrderFound : List (List ℕ) → Option (Vec ℕ) → Type 0
IsOrderFound graph None = (node : ℕ) × (on_closed_walk graph node ≡ true)
IsOrderFound graph (Some order) = IsOrder graph order.items

-- each node of a graph is told whether it is on a closed walk
pub record AreClosedTold (graph : List (List ℕ)) (closed : List Bool) : Type 0 where
  pub many : length closed ≡ length graph
  pub told : (node : ℕ) → node < length graph → slice_get closed node ≡ Some (on_closed_walk graph node)
