-- Iterators as the lists of the items still to come.
use Rattle.std.specs.Prelude.{◌≡◌, List, [], ◌∷◌, ◌++◌, Option, MatchOption}
use Rattle.std.specs.Iterator.{AlwaysYields}

-- the first of the items was given and the others are left, or `None` if there is none; `has` tells what is left
abbrev pub GivesFirst : {X : Type 0} → Option X → List X → (List X → Type 0) → Type 0
GivesFirst {X} given items has = MatchOption given (items ≡ []) (λ first. (others : List X) × (items ≡ first ∷ others) × has others)

-- the list of an iterator of std: whatever its calls do, they give these items, and then `None`
abbrev pub HasList : {S X : Type 0} → (S → Option X → S → Type 0) → S → List X → Type 0
HasList steps state items = AlwaysYields steps (λ item. item) state items

-- a front of the items was appended
abbrev pub AppendsFront : {X : Type 0} → List X → List X → List X → Type 0
AppendsFront {X} old new items = (front : List X) × (rest : List X) × (items ≡ front ++ rest) × (new ≡ old ++ front)
