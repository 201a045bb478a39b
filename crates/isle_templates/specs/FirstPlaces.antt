-- Where variables stand first.
use Rattle.std.specs.Prelude.{◌≡◌, ℕ, List, Option}
use Rattle.isle_templates.specs.Renumbered.{place_of}

-- each variable has its first place
pub record FindsPlaces (order : List ℕ) (place : ℕ → Option ℕ) : Type 0 where
  pub finds : (x : ℕ) → place x ≡ place_of order x
