-- Ways through a graph, node by node, and what nodes reach.
use Rattle.std.specs.Prelude.{◌≡◌, ◌⊎◌, ℕ, List, [], ◌∷◌, true, Contains}
use Rattle.isle_walks.specs.Walks.{next_of, reaches}

-- a node leads to the first of these, and each of them to the one after it
abbrev pub IsWayFrom : List (List ℕ) → (from : ℕ) → List ℕ → Type 0
IsWayFrom graph from [] = Unit {0}
IsWayFrom graph from (next ∷ rest) = Contains (next_of graph from) next × IsWayFrom graph next rest

-- each of these nodes leads to the one after it
abbrev pub IsWay : List (List ℕ) → List ℕ → Type 0
IsWay graph [] = Unit {0}
IsWay graph (node ∷ rest) = IsWayFrom graph node rest

-- a node leads to the first of these, each of them to the one after it, and the last of all is this node
abbrev pub IsWayTo : List (List ℕ) → (from : ℕ) → List ℕ → (to : ℕ) → Type 0
IsWayTo graph from [] to = from ≡ to
IsWayTo graph from (next ∷ rest) to = Contains (next_of graph from) next × IsWayTo graph next rest to

-- a walk of at least one step leads from the one node to the other
abbrev pub Reaches : List (List ℕ) → (from to : ℕ) → Type 0
Reaches graph from to = (steps : ℕ) × (reaches graph steps from to ≡ true)

-- a walk leads from the one node to the other, or they are one
abbrev pub LeadsTo : List (List ℕ) → (from to : ℕ) → Type 0
LeadsTo graph from to = (from ≡ to) ⊎ Reaches graph from to
