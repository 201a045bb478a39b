-- How rules become a rule set, one after another.
use Rattle.std.specs.Prelude.{◌≡◌, ◌⊎◌, ℕ, ◌+◌, List, [], ◌∷◌, Contains}
use Rattle.isle_core.specs.declared.rule_sets.FlatRule.{FlatRule}
use Rattle.isle_core.specs.Path.{Path, paths_of}
use Rattle.isle_core.specs.Calling.{impure}
use Rattle.isle_core.specs.RulePaths.{rule_paths}
use Rattle.isle_core.specs.RulePaths.{rules_paths}
use Rattle.isle_core.specs.StandsFor.{EachOnce, IsFlat, AreFlat}
use Rattle.isle_core.specs.Rule.{Environment, Rule}
use Rattle.isle_rulesets.specs.Numbering.{Numbered, Extends}

-- the paths of a rule are numbered, nothing else was, and the flat rule is the rule wherever no path stands twice
pub record Adds (env : Environment) (old new : Numbered) (r : Rule) (f : FlatRule) : Type 0 where
  pub extends : Extends (paths_of old.bindings) (paths_of new.bindings)
  pub only : (p : Path) → Contains (paths_of new.bindings) p → Contains (paths_of old.bindings) p ⊎ Contains (rule_paths env r old.calls) p
  pub all : (p : Path) → Contains (rule_paths env r old.calls) p → Contains (paths_of new.bindings) p
  pub flat : (ps : List Path) → Extends (paths_of new.bindings) ps → EachOnce ps → IsFlat env ps r old.calls f
  pub calls : new.calls ≡ old.calls + impure env r.rhs

-- how many impure calls the right sides of rules make
abbrev pub rules_impure : Environment → List Rule → ℕ
rules_impure env [] = 0
rules_impure env (r ∷ rs) = impure env r.rhs + rules_impure env rs

-- the bindings are the paths of the rules, and the flat rules are the rules wherever no path stands twice
pub record Covers (env : Environment) (n : Numbered) (rules : List Rule) (fs : List FlatRule) : Type 0 where
  pub only : (p : Path) → Contains (paths_of n.bindings) p → Contains (rules_paths env rules 0) p
  pub all : (p : Path) → Contains (rules_paths env rules 0) p → Contains (paths_of n.bindings) p
  pub flat : (ps : List Path) → Extends (paths_of n.bindings) ps → EachOnce ps → AreFlat env ps rules 0 fs
  pub calls : n.calls ≡ rules_impure env rules
