-- The constants that rules speak of.
use Rattle.std.specs.Prelude.{List, Contains}
use Rattle.isle_core.specs.declared.rule_sets.Constraint.{Constraint}
use Rattle.isle_core.specs.declared.rule_sets.Constraint.TheVariants as constraint
use Rattle.isle_core.specs.Path.{Path, Nowhere, ConstBool, ConstInt, ConstPrim}
use Rattle.isle_core.specs.RightSide.{bool_type}
use Rattle.isle_core.specs.Rule.{Environment, Rule}
use Rattle.isle_core.specs.RulePaths.{rules_paths}
use Rattle.isle_core.specs.Tests.{Is, rule_tests}

-- what a constraint tests for, as a path, if that is a constant
abbrev pub constant_path : Constraint → Path
constant_path (constraint.ConstBool val) = ConstBool bool_type val
constant_path (constraint.ConstInt val ty) = ConstInt ty val
constant_path (constraint.ConstPrim val) = ConstPrim val
constant_path (constraint.Variant ty variant) = Nowhere
constant_path (constraint.Struct ty) = Nowhere
constant_path constraint.Some = Nowhere

-- a path of the rules, or a constant that one of them tests for
pub data IsSpoken (env : Environment) (rules : List Rule) : Path → Type 0 where
  on_path : (p : Path) → Contains (rules_paths env rules 0) p → IsSpoken env rules p
  tested : (r : Rule) (p : Path) (c : Constraint) → Contains rules r
      → Contains (rule_tests env r) (Is p c) → IsSpoken env rules (constant_path c)
