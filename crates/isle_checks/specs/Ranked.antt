-- Rules of which those of no higher priority than one are passed over.
use Rattle.std.specs.Prelude.{◌≡◌, ◌≤ℤ◌, ℕ, ℤ, ◌+◌, ◌≤◌, List, length, take, drop, Some, slice_get, Contains}
use Rattle.isle_checks.specs.declared.placed.Placed.{Placed}

-- no rule of a list has a higher priority
abbrev pub NoneAbove : ℤ → List Placed → Type 0
NoneAbove prio rules = (a : Placed) → Contains rules a → a.rule.now.prio ≤ℤ prio

-- for each rule of a list one that no priority lies above, of it and of those before it
pub record AreTops (rules tops : List Placed) : Type 0 where
  pub long : length tops ≡ length rules
  pub each : (n : ℕ) (top : Placed) → slice_get tops n ≡ Some top → NoneAbove top.rule.now.prio (take (n + 1) rules)

-- one above which neither this rule lies nor the last of these
pub record IsHighest (tops : List Placed) (b result : Placed) : Type 0 where
  pub own : b.rule.now.prio ≤ℤ result.rule.now.prio
  pub last : (n : ℕ) (top : Placed) → length tops ≡ n + 1 → slice_get tops n ≡ Some top → top.rule.now.prio ≤ℤ result.rule.now.prio

-- the last of the first so many tops, if there are some, is not above a priority
pub record IsPassed (tops : List Placed) (prio : ℤ) (count : ℕ) : Type 0 where
  pub within : count ≤ length tops
  pub last : (n : ℕ) → count ≡ n + 1 → (top : Placed) × (slice_get tops n ≡ Some top) × (top.rule.now.prio ≤ℤ prio)

-- what is left of a list after some rules of no higher priority
pub record IsTail (prio : ℤ) (rules tail : List Placed) : Type 0 where
  pub count : ℕ
  pub is : tail ≡ drop count rules
  pub low : NoneAbove prio (take count rules)
