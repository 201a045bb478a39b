-- When a rule of a rule set makes an error of another one.
use Rattle.std.specs.Prelude.{◌≡◌, ◌<◌, ◌<ℤ◌, ℕ, List, [], IsSomeAnd, slice_get}
use Rattle.isle_core.specs.declared.rule_sets.FlatRule.{FlatRule}
use Rattle.isle_checks.specs.Bears.{Agree, AreAmong}
use Rattle.isle_checks.specs.declared.placed.Check.{Check}
use Rattle.isle_checks.specs.declared.placed.Check.TheVariants as check
use Rattle.isle_checks.specs.declared.placed.Placed.{Placed}

-- the first stands before the second, has its priority, and no binding has different constraints of the two
pub record Overlap (i : ℕ) (f : FlatRule) (j : ℕ) (g : FlatRule) : Type 0 where
  pub earlier : i < j
  pub prio : f.prio ≡ g.prio
  pub agree : Agree f.constraints g.constraints

-- the first has a higher priority, neither has an equality, and each constraint of the first stands among the second's
pub record Shadow (f g : FlatRule) : Type 0 where
  pub higher : g.prio <ℤ f.prio
  pub plain : f.equals ≡ []
  pub also_plain : g.equals ≡ []
  pub among : AreAmong f.constraints g.constraints

-- the first makes an error of the second, at these places
abbrev pub MakesOf : Check → ℕ → FlatRule → ℕ → FlatRule → Type 0
MakesOf check.Overlaps i f j g = Overlap i f j g
MakesOf check.Shadows i f j g = Shadow f g

-- so of rules with their places
abbrev pub Makes : Check → Placed → Placed → Type 0
Makes check a b = MakesOf check a.place a.rule.now b.place b.rule.now

-- so of the rules of a list at these places
abbrev pub MakesAt : Check → List FlatRule → ℕ → ℕ → Type 0
MakesAt check rules i j = IsSomeAnd (slice_get rules i) (λ (f : FlatRule). IsSomeAnd (slice_get rules j) (λ (g : FlatRule). MakesOf check i f j g))
