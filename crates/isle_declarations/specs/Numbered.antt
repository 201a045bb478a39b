-- Numbers of names, and the first place of each.
use Rattle.std.specs.Prelude.{◌≡◌, ◌<◌, ℕ, ◌+◌, List, [], ◌∷◌, ◌==◌, Option, Some, None, map, option_map, slice_get, if◌then◌else◌}
use Rattle.isle_declarations.specs.declared.first_places.FirstPlaces.{FirstPlaces}
use Rattle.isle_declarations.specs.Symbols.{index_of}

-- the first place of a number
abbrev pub place_of : List ℕ → ℕ → Option ℕ
place_of [] k = None
place_of (n ∷ ns) k = if n == k then Some 0 else option_map (λ (p : ℕ). p + 1) (place_of ns k)

-- what is at a place if something may be
abbrev pub joined : Option (Option ℕ) → Option ℕ
joined None = None
joined (Some o) = o

-- what a table has at a number
abbrev pub place_in : List (Option ℕ) → Option ℕ → Option ℕ
place_in table None = None
place_in table (Some k) = joined (slice_get table k)

-- the table has the first place of each number
pub record ArePlaces (count : ℕ) (numbers : List ℕ) (found : FirstPlaces) : Type 0 where
  pub places : (k : ℕ) → k < count → place_in found.table.items (Some k) ≡ place_of numbers k

-- the numbers are those of the names
abbrev pub AreNumbered : List (List ℕ) → List (List ℕ) → List ℕ → Type 0
AreNumbered syms names numbers = map (index_of syms) names ≡ map Some numbers
