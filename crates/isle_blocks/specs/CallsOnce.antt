-- The ordered calls of a rule.
use Rattle.std.specs.Prelude.{◌≡◌, List, true, Contains, map}
use Rattle.isle_core.specs.declared.rule_sets.FlatRule.{FlatRule}
use Rattle.isle_core.specs.HoldsImpure.{holds_impure}
use Rattle.isle_core.specs.Iterators.{calls_multi}
use Rattle.isle_core.specs.Path.{Path, at}
use Rattle.isle_core.specs.Rule.{Environment}
use Rattle.isle_core.specs.StandsFor.{EachOnce}

-- none stands twice, and those that answer several times hold an impure call
pub record HasCallsOnce (env : Environment) (ps : List Path) (f : FlatRule) : Type 0 where
  pub once : EachOnce (map (at ps) f.ordered)
  pub late : (q : Path) → Contains (map (at ps) f.ordered) q → calls_multi env q ≡ true → holds_impure env q ≡ true
