-- When the constraints that the rules of a set put on one path exclude each other.
use Rattle.std.specs.Prelude.{◌≡◌, List, true, Contains, map}
use Rattle.isle_core.specs.declared.rule_sets.Constraint.{Constraint}
use Rattle.isle_core.specs.declared.rule_sets.FlatRule.{FlatRule}
use Rattle.isle_core.specs.declared.rule_sets.RuleSet.{RuleSet}
use Rattle.isle_core.specs.Meaning.{Meaning}
use Rattle.isle_core.specs.Path.{Path, paths_of}
use Rattle.isle_core.specs.Rule.{Environment}
use Rattle.isle_core.specs.RuleSet.{is_test}
use Rattle.isle_core.specs.Tests.{Is}
use Rattle.isle_core.specs.Value.{Value}
use Rattle.isle_core.specs.ValueAt.{Known, value_at, meets}

-- a rule of the set puts the constraint on the path
pub record IsPut (s : RuleSet) (p : Path) (c : Constraint) : Type 0 where
  pub rule : FlatRule
  pub there : Contains s.rules rule
  pub put : Contains (map (is_test (paths_of s.bindings)) rule.constraints) (Is p c)

-- whatever is known, what a path holds meets at most one of the constraints that rules of the set put on it
abbrev pub AreTestsApart : Environment → Meaning → List Value → RuleSet → Type 0
AreTestsApart env m args s =
    (known : Known) (p : Path) (c d : Constraint) → IsPut s p c → IsPut s p d
    → meets env m c (value_at env m args known p) ≡ true → meets env m d (value_at env m args known p) ≡ true → c ≡ d
