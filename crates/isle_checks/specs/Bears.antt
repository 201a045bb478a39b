-- Which constraints a rule of a rule set bears on which bindings.
use Rattle.std.specs.Prelude.{◌≡◌, ◌⊎◌, List, [], ◌∷◌}
use Rattle.isle_core.specs.declared.BindingId.{BindingId}
use Rattle.isle_core.specs.declared.rule_sets.Constraint.{Constraint}

-- constraints on bindings
abbrev pub Constraints : Type 0
Constraints = List (BindingId × Constraint)

-- another constraint on that binding
abbrev pub IsOther : BindingId × Constraint → BindingId → Constraint → Type 0
IsOther x b c = (x.0 ≡ b) × (x.1 ≡ c → ⊥)

-- one of them is such
abbrev pub HasOther : Constraints → BindingId → Constraint → Type 0
HasOther [] b c = ⊥
HasOther (x ∷ xs) b c = IsOther x b c ⊎ HasOther xs b c

-- no binding has different constraints of the two
abbrev pub Agree : (one other : Constraints) → Type 0
Agree [] other = Unit {0}
Agree (x ∷ xs) other = (HasOther other x.0 x.1 → ⊥) × Agree xs other

-- it is one of them
abbrev pub IsAmong : Constraints → BindingId × Constraint → Type 0
IsAmong [] y = ⊥
IsAmong (x ∷ xs) y = (x ≡ y) ⊎ IsAmong xs y

-- each of the first stands among the second
abbrev pub AreAmong : (some all : Constraints) → Type 0
AreAmong [] all = Unit {0}
AreAmong (x ∷ xs) all = IsAmong all x × AreAmong xs all
