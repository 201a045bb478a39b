-- When a rule is unreachable by itself, when two rules of a term overlap, and when one shadows another.
use Rattle.std.specs.Prelude.{◌≡◌, ◌⊎◌, ◌<◌, ◌<ℤ◌, ℕ, List, [], ◌∷◌, IsSomeAnd, Contains, slice_get}
use Rattle.isle_core.specs.declared.rule_sets.Constraint.{Constraint}
use Rattle.isle_core.specs.Path.{Path}
use Rattle.isle_core.specs.Tests.{Test, Is, Equal, rule_tests}
use Rattle.isle_core.specs.Rule.{Environment, Rule}

-- these tests equate two paths, in whichever order
abbrev pub Equate : List Test → (p q : Path) → Type 0
Equate tests p q = Contains tests (Equal p q) ⊎ Contains tests (Equal q p)

-- a chain of equalities leads from the one path through these to the other
abbrev pub IsChain : List Test → (from : Path) → List Path → (to : Path) → Type 0
IsChain tests from [] to = from ≡ to
IsChain tests from (next ∷ rest) to = Equate tests from next × IsChain tests next rest to

-- a rule puts two different constraints on one path, or on two that a chain of its equalities joins
pub record Unreachable (env : Environment) (r : Rule) : Type 0 where
  pub from : Path
  pub one : Constraint
  pub to : Path
  pub other : Constraint
  pub tested : Contains (rule_tests env r) (Is from one)
  pub also_tested : Contains (rule_tests env r) (Is to other)
  pub differ : one ≡ other → ⊥
  pub between : List Path
  pub chain : IsChain (rule_tests env r) from between to

-- two rules have one priority, and no path bears different constraints of the two
pub record Overlaps (env : Environment) (q r : Rule) : Type 0 where
  pub prio : q.prio ≡ r.prio
  pub agree : (p : Path) (c d : Constraint) → Contains (rule_tests env q) (Is p c) → Contains (rule_tests env r) (Is p d) → (c ≡ d → ⊥) → ⊥

-- a rule equates no two different paths
abbrev pub EquatesNone : Environment → Rule → Type 0
EquatesNone env r = (p q : Path) → Contains (rule_tests env r) (Equal p q) → p ≡ q

-- the first has a higher priority, neither has an equality, and each constraint of the first stands among the second's
pub record Shadows (env : Environment) (q r : Rule) : Type 0 where
  pub higher : r.prio <ℤ q.prio
  pub plain : EquatesNone env q
  pub also_plain : EquatesNone env r
  pub among : (p : Path) (c : Constraint) → Contains (rule_tests env q) (Is p c) → Contains (rule_tests env r) (Is p c)

-- the rule at this place is unreachable by itself
abbrev pub UnreachableAt : Environment → List Rule → ℕ → Type 0
UnreachableAt env rules j = IsSomeAnd (slice_get rules j) (λ (r : Rule). Unreachable env r)

-- the rules at these places overlap, the first before the second
abbrev pub OverlapsAt : Environment → List Rule → ℕ → ℕ → Type 0
OverlapsAt env rules i j = (i < j) × IsSomeAnd (slice_get rules i) (λ (q : Rule). IsSomeAnd (slice_get rules j) (λ (r : Rule). Overlaps env q r))

-- the rule at the first place shadows that at the second
abbrev pub ShadowsAt : Environment → List Rule → ℕ → ℕ → Type 0
ShadowsAt env rules i j = IsSomeAnd (slice_get rules i) (λ (q : Rule). IsSomeAnd (slice_get rules j) (λ (r : Rule). Shadows env q r))
