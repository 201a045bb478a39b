-- How the patterns and the conditions of a rule are numbered.
use Rattle.std.specs.Prelude.{List, ◌++◌, map}
use Rattle.isle_core.specs.declared.BindingId.{BindingId}
use Rattle.isle_core.specs.declared.rule_sets.Constraint.TheVariants as constraint
use Rattle.isle_core.specs.Path.{Path, at, paths_of}
use Rattle.isle_core.specs.RightSide.{path}
use Rattle.isle_core.specs.RulePaths.{pattern_paths, args_paths, expr_paths, iflets_paths}
use Rattle.isle_core.specs.Tests.{Test, Is, Places, no_places, tests, after, called_tests, args_after, rule_tests, rule_places}
use Rattle.isle_core.specs.Rule.{Environment, IfLet, Rule}
use Rattle.isle_rulesets.specs.declared.pattern_tests.PatternTests.{PatternTests}
use Rattle.isle_rulesets.specs.Late.{HasNoTurns}
use Rattle.isle_rulesets.specs.Met.{args_lists, condition_lists, iflets_lists}
use Rattle.isle_rulesets.specs.Numbering.{Numbered, Extends, Joins}
use Rattle.isle_rulesets.specs.PatternTests.{HasTests, Reads}
use Rattle.isle_rulesets.specs.RightSides.{Stand}

-- that what stands at a path is something
abbrev pub is_something : Path → Test
is_something p = Is p constraint.Some

-- so of what stands at numbers
abbrev pub found_at : List Path → List BindingId → List Test
found_at ps bs = map is_something (map (at ps) bs)

-- these tests were gathered, wherever bindings have paths
abbrev pub FindsAll : PatternTests → PatternTests → List BindingId → Type 0
FindsAll d e bs = (ps : List Path) → (places : Places) → (ts : List Test) → HasTests ps places ts d → HasTests ps places (ts ++ found_at ps bs) e

-- the paths of a condition: of its expression, and of what its pattern takes apart
abbrev pub condition_paths : Environment → IfLet → Places → List Path
condition_paths env c places = expr_paths env c.rhs places 0 ++ pattern_paths env c.lhs (path env c.rhs places 0)

-- a condition's expression is numbered, and what its pattern takes apart; that its calls find something, and the pattern's tests
-- on the expression's path, were gathered; the variables hold no impure call, as in front of a right side
abbrev pub TakesCondition : Environment → Numbered → Numbered → PatternTests → PatternTests → IfLet → Type 0
TakesCondition env old new d e c = (places : Places) → Stand (paths_of old.bindings) d.variables places → HasNoTurns places
    → Reads old new d e (condition_paths env c places) (condition_lists env c places) (after env c.lhs (path env c.rhs places 0)) (λ others. called_tests env c.rhs places ++ tests env c.lhs (path env c.rhs places 0) others)

-- the rule with these conditions in place of its own
abbrev pub with_iflets : Rule → List IfLet → Rule
with_iflets r cs = record { id = r.id; root_term = r.root_term; args = r.args; iflets = cs; rhs = r.rhs; prio = r.prio; pos = r.pos; name = r.name }

-- all in front of a rule's right side is numbered, what is gathered has the rule's tests, and the variables have numbers
pub record NumbersRule (env : Environment) (old new : Numbered) (r : Rule) (d : PatternTests) : Type 0 where
  pub joins : Joins old new (args_paths env r.args 0 ++ iflets_paths env r.iflets (args_after env r.args 0 no_places)) (args_lists env r.args 0 ++ iflets_lists env r.iflets (args_after env r.args 0 no_places))
  pub tests : (ps : List Path) → Extends (paths_of new.bindings) ps → HasTests ps (rule_places env r) (rule_tests env r) d
  pub stand : Stand (paths_of new.bindings) d.variables (rule_places env r)
