-- Counts that code keeps up to what a rule may have.
use Rattle.std.specs.Prelude.{◌≡◌, ℕ, min}

-- two counts are the same, or both are more nodes than a rule may have
abbrev pub SameCount : ℕ → ℕ → Type 0
SameCount n m = min n 4097 ≡ min m 4097
