-- Where a local was bound last.
use Rattle.std.specs.Prelude.{ℕ, suc, List, [], ◌∷◌, Option, Some, None, ◌==◌, if◌then◌else◌}

-- among locals from this place on, after what is known of those before
abbrev pub last_from : ℕ → Option ℕ → List ℕ → ℕ → Option ℕ
last_from place known [] n = known
last_from place known (l ∷ ls) n = last_from (suc place) (if l == n then Some place else known) ls n

-- among locals in the order in which they were bound
abbrev pub last_place : List ℕ → ℕ → Option ℕ
last_place ls n = last_from 0 None ls n
