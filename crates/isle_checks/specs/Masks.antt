-- Which rules may shadow another.
use Rattle.std.specs.Prelude.{◌≡◌, ◌⊎◌, List, [], ◌∷◌, ◌++◌, Some, None, Contains}
use Rattle.isle_core.specs.declared.rule_sets.FlatRule.{FlatRule}
use Rattle.isle_checks.specs.Bears.{Constraints, IsAmong}
use Rattle.isle_checks.specs.Lists.{Rises, Listing}
use Rattle.isle_checks.specs.declared.lists.Key.{Key}
use Rattle.isle_checks.specs.declared.lists.Key.TheVariants as key
use Rattle.isle_checks.specs.declared.placed.Placed.{Placed}

-- a rule joined others, or it has an equality
abbrev pub MayJoin : Placed → (old new : List Placed) → Type 0
MayJoin b old new = (new ≡ old ++ b ∷ []) ⊎ ((b.rule.now.equals ≡ [] → ⊥) × (new ≡ old))

-- the rules of a group without equalities, their places rising
pub record ArePlain (group plain : List Placed) : Type 0 where
  pub from : (a : Placed) → Contains plain a → Contains group a
  pub all : (a : Placed) → Contains group a → a.rule.now.equals ≡ [] → Contains plain a
  pub rise : Rises plain

-- a key is one of these constraints
abbrev pub Bears : Constraints → Key → Type 0
Bears xs (key.Priority prio) = ⊥
Bears xs (key.Constraint b c) = IsAmong xs (b, c)

-- a key is one of a rule's constraints
abbrev pub BearsKey : FlatRule → Key → Type 0
BearsKey f key = Bears f.constraints key

-- the rules that are listed under these constraints
abbrev pub under_each : Listing → Constraints → List Placed
under_each lists [] = []
under_each lists (x ∷ xs) = lists (Some (key.Constraint x.0 x.1)) ++ under_each lists xs

-- the rules that may shadow one with these constraints: those listed under none, and under each of these
abbrev pub candidates : Listing → Constraints → List Placed
candidates lists xs = lists None ++ under_each lists xs
