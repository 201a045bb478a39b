-- When a rule's equalities join two bindings, and when a flat rule is unreachable by itself.
use Rattle.std.specs.Prelude.{◌≡◌, ◌⊎◌, List, [], ◌∷◌, Contains}
use Rattle.isle_core.specs.declared.BindingId.{BindingId}
use Rattle.isle_core.specs.declared.rule_sets.Constraint.{Constraint}
use Rattle.isle_core.specs.declared.rule_sets.FlatRule.{FlatRule}
use Rattle.isle_checks.specs.Bears.{IsAmong}

-- equalities of bindings
abbrev pub Equalities : Type 0
Equalities = List (BindingId × BindingId)

-- these equate two bindings, in whichever order
abbrev pub AreEquated : Equalities → (b c : BindingId) → Type 0
AreEquated es b c = Contains es (b, c) ⊎ Contains es (c, b)

-- a chain of equalities leads from the one binding through these to the other
abbrev pub IsWay : Equalities → (from : BindingId) → List BindingId → (to : BindingId) → Type 0
IsWay es from [] to = from ≡ to
IsWay es from (next ∷ rest) to = AreEquated es from next × IsWay es next rest to

-- a chain leads from the one to the other
pub record AreJoined (es : Equalities) (from to : BindingId) : Type 0 where
  pub between : List BindingId
  pub way : IsWay es from between to

-- a flat rule puts two different constraints on one binding, or on two that a chain of its equalities joins
pub record IsUnreachable (f : FlatRule) : Type 0 where
  pub from : BindingId
  pub one : Constraint
  pub to : BindingId
  pub other : Constraint
  pub among : IsAmong f.constraints (from, one)
  pub also_among : IsAmong f.constraints (to, other)
  pub differ : one ≡ other → ⊥
  pub joined : AreJoined f.equals from to
