-- The rules of a group that something tells from others, and those that nothing tells.
use Rattle.std.specs.Prelude.{◌≡◌, ◌⊎◌, ◌≤◌, List, [], ◌∷◌, ◌++◌, length, Contains}
use Rattle.isle_checks.specs.Lists.{Rises}
use Rattle.isle_checks.specs.declared.placed.Placed.{Placed}

-- a rule joined one of two lists
abbrev pub JoinsOne : Placed → (keyed others new_keyed new_others : List Placed) → Type 0
JoinsOne b keyed others new_keyed new_others = ((new_keyed ≡ keyed ++ b ∷ []) × (new_others ≡ others)) ⊎ ((new_keyed ≡ keyed) × (new_others ≡ others ++ b ∷ []))

-- each rule of a group stands in one of two lists, and no others, their places rising
pub record AreParts (group keyed others : List Placed) : Type 0 where
  pub keyed_in : (a : Placed) → Contains keyed a → Contains group a
  pub others_in : (a : Placed) → Contains others a → Contains group a
  pub keyed_rise : Rises keyed
  pub others_rise : Rises others
  pub each : (a : Placed) → Contains group a → Contains keyed a ⊎ Contains others a
  pub few : length keyed ≤ length group
