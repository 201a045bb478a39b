-- How far a search for closed walks has come: the path that it follows, in parts of nodes that reach one another.
use Rattle.std.specs.Prelude.{◌≡◌, ◌⊎◌, ℕ, ◌+◌, ◌<◌, ◌≤◌, List, [], ◌∷◌, ◌++◌, length, Bool, false, slice_index, slice_index_or, sum_by, Contains}
use Rattle.isle_walks.specs.Walks.{next_of, on_closed_walk}
use Rattle.isle_walks.specs.Ways.{LeadsTo, Reaches}
use Rattle.isle_walks.specs.declared.parts.Mark.{Mark}
use Rattle.isle_walks.specs.declared.parts.Mark.TheVariants.{New, Opened, Done}
use Rattle.isle_walks.specs.declared.parts.Part.{Part}
use Rattle.isle_walks.specs.declared.parts.Search.{Search}

-- whether a mark tells of a closed walk
abbrev pub tells_closed : Mark → Bool
tells_closed New = false
tells_closed (Opened place) = false
tells_closed (Done closed) = closed

-- what a node is marked with; one that is not there is new
abbrev pub mark_of : List Mark → ℕ → Mark
mark_of marks node = slice_index_or marks node New

-- a node is done
abbrev pub IsDone : List Mark → ℕ → Type 0
IsDone marks node = (closed : Bool) × (mark_of marks node ≡ Done closed)

-- all nodes are done
abbrev pub AreAllDone : List (List ℕ) → List Mark → Type 0
AreAllDone graph marks = (node : ℕ) → node < length graph → IsDone marks node

-- the nodes of the path are marked with their places, and those that are done with what holds of them; these lead only to one another
pub record IsMarked (graph : List (List ℕ)) (marks : List Mark) (path : List ℕ) : Type 0 where
  pub many : length marks ≡ length graph
  pub placed : (place : ℕ) → place < length path → mark_of marks (slice_index path place) ≡ Opened place
  pub opened : (node place : ℕ) → mark_of marks node ≡ Opened place → (place < length path) × (slice_index path place ≡ node)
  pub told : (node : ℕ) (closed : Bool) → mark_of marks node ≡ Done closed → on_closed_walk graph node ≡ closed
  pub settled : (node : ℕ) → IsDone marks node → (next : ℕ) → Contains (next_of graph node) next → IsDone marks next

-- all nodes that are new wait, and those that wait are there
pub record AreWaiting (graph : List (List ℕ)) (marks : List Mark) (waiting : List ℕ) : Type 0 where
  pub known : (node : ℕ) → node < length graph → mark_of marks node ≡ New → Contains waiting node
  pub there : (node : ℕ) → Contains waiting node → node < length graph

-- a part begins before another
abbrev pub IsBefore : (first second : Part) → Type 0
IsBefore first second = (first.begin < second.begin) × (first.from ≤ second.from)

-- each part begins before those after it
abbrev pub AreRising : List Part → Type 0
AreRising [] = Unit {0}
AreRising (first ∷ rest) = ((part : Part) → Contains rest part → IsBefore first part) × AreRising rest

-- some part begins after the one place, and not after the other
abbrev pub BeginsIn : List Part → (behind to : ℕ) → Type 0
BeginsIn parts behind to = (part : Part) × Contains parts part × (behind < part.begin) × (part.begin ≤ to)

-- each node of the path leads to each, but where a part begins after the one that is led to; a part's first node reaches all that waits for the part
pub record AreParted (graph : List (List ℕ)) (path : List ℕ) (parts : List Part) (waiting : List ℕ) : Type 0 where
  pub linked : (from to : ℕ) → from < length path → to < length path → LeadsTo graph (slice_index path from) (slice_index path to) ⊎ BeginsIn parts to from
  pub reached : (part : Part) → Contains parts part → (place : ℕ) → part.from ≤ place → place < length waiting → Reaches graph (slice_index path part.begin) (slice_index waiting place)
  pub rising : AreRising parts
  pub within : (part : Part) → Contains parts part → (part.begin < length path) × (part.from ≤ length waiting)
  pub covered : (place : ℕ) → place < length path → (part : Part) × Contains parts part × (part.begin ≤ place)

-- a node is on the path, and no part begins between a place and it
abbrev pub IsBehind : List ℕ → List Part → (place node : ℕ) → Type 0
IsBehind path parts place node = (at : ℕ) × (at < length path) × (slice_index path at ≡ node) × ((part : Part) → Contains parts part → part.begin ≤ place → part.begin ≤ at)

-- a node waits for the part of a place
abbrev pub IsAwaited : List Part → (waiting : List ℕ) → (place node : ℕ) → Type 0
IsAwaited parts waiting place node = (at : ℕ) × (at < length waiting) × (slice_index waiting at ≡ node) × ((part : Part) → Contains parts part → part.begin ≤ place → part.from ≤ at)

-- what a node of the path leads to is done, or on the path in no part before its own, or waits
abbrev pub AreFollowed : List (List ℕ) → List Mark → (path : List ℕ) → List Part → (waiting : List ℕ) → Type 0
AreFollowed graph marks path parts waiting = (place : ℕ) → place < length path → (next : ℕ) → Contains (next_of graph (slice_index path place)) next → IsDone marks next ⊎ (IsBehind path parts place next ⊎ IsAwaited parts waiting place next)

-- all that is known of a search
pub record IsSearchedAt (graph : List (List ℕ)) (marks : List Mark) (path : List ℕ) (parts : List Part) (waiting : List ℕ) : Type 0 where
  pub marked : IsMarked graph marks path
  pub waits : AreWaiting graph marks waiting
  pub parted : AreParted graph path parts waiting
  pub followed : AreFollowed graph marks path parts waiting

-- the same of what the code holds
abbrev pub IsSearched : List (List ℕ) → Search → Type 0
IsSearched graph search = IsSearchedAt graph search.marks.items search.path.items search.parts.items search.waiting.items

-- a part is the last of these, if there are any
abbrev pub IsLast : List Part → Part → Type 0
IsLast parts last = (rest : List Part) (own : Part) → parts ≡ rest ++ own ∷ [] → last ≡ own

-- a node is the last that waits, and waits for the last part
pub record IsNextAt (parts : List Part) (waiting : List ℕ) (node : ℕ) : Type 0 where
  pub before : List ℕ
  pub last : waiting ≡ before ++ node ∷ []
  pub room : (part : Part) → Contains parts part → part.from ≤ length before

-- the same of what the code holds
abbrev pub IsNext : Search → ℕ → Type 0
IsNext search node = IsNextAt search.parts.items search.waiting.items node

-- no node waits for the last part, or at all if there is no part
pub record IsIdleAt (parts : List Part) (waiting : List ℕ) : Type 0 where
  pub none : parts ≡ [] → length waiting ≡ 0
  pub some : (rest : List Part) (last : Part) → parts ≡ rest ++ last ∷ [] → length waiting ≡ last.from

-- the same of what the code holds
abbrev pub IsIdle : Search → Type 0
IsIdle search = IsIdleAt search.parts.items search.waiting.items

-- what is left to do for a node that is marked so: so much if it is new
abbrev pub work_of : ℕ → Mark → ℕ
work_of work New = work
work_of work (Opened place) = 0
work_of work (Done closed) = 0

-- how much a search has left to do, at most
abbrev pub left_at : List (List ℕ) → List Mark → List Part → (waiting : List ℕ) → ℕ
left_at graph marks parts waiting = sum_by (work_of (sum_by length graph + 1)) marks + (length parts + length waiting)

-- the same of what the code holds
abbrev pub left_of : List (List ℕ) → Search → ℕ
left_of graph search = left_at graph search.marks.items search.parts.items search.waiting.items
