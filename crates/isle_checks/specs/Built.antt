-- The rules of an environment are of the built forms, and speak of variables that are bound.
use Rattle.std.specs.Prelude.{All}
use Rattle.isle_core.specs.BuiltRule.{IsBuiltRule}
use Rattle.isle_core.specs.Rule.{Environment}
use Rattle.isle_core.specs.Scope.{IsScopedRule}

-- each is and does
pub record AreBuilt (env : Environment) : Type 0 where
  pub forms : All (IsBuiltRule env.terms) env.rules
  pub bound : All IsScopedRule env.rules
