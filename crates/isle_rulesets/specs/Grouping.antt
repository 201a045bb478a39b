-- The rules of each term, and the rule sets of the terms with rules.
use denote.Ref.{Bor}
use Rattle.std.specs.Prelude.{◌≡◌, ℕ, List, ◌==◌, Some, All, map, filter, length, slice_get}
use Rattle.std.specs.List.{list_any, range_with_len}
use Rattle.std.specs.Global.{Vec}
use Rattle.isle_core.specs.declared.TermId.{TermId}
use Rattle.isle_core.specs.declared.rule_sets.RuleSet.{RuleSet}
use Rattle.isle_core.specs.declared.rules.Rule.{Rule as CodeRule}
use Rattle.isle_core.specs.RuleViews.{rules as seen}
use Rattle.isle_core.specs.StandsFor.{StandsFor}
use Rattle.isle_core.specs.Terms.{with_rules}
use Rattle.isle_core.specs.Rule.{Rule, Environment, rules_of}

-- as many groups, the i-th with the rules of the i-th term in order
pub record AreGroups (groups : List (Vec (Bor CodeRule))) (count : ℕ) (rules : List Rule) : Type 0 where
  pub many : length groups ≡ count
  pub each : (i : ℕ) (g : Vec (Bor CodeRule)) → slice_get groups i ≡ Some g → seen g.items ≡ filter (λ (r : Rule). r.root_term.0 == i) rules

-- the terms with rules in order of ids, each with a rule set that stands for its rules
pub record AreRuleSets (env : Environment) (sets : List (TermId × RuleSet)) : Type 0 where
  pub ids : map (λ s. s.0) sets ≡ with_rules env
  pub stand : All (λ (s : TermId × RuleSet). StandsFor env s.1 (rules_of env s.0)) sets

-- the rule sets of the terms before the n-th
pub record AreSetsBelow (env : Environment) (rs : List Rule) (n : ℕ) (sets : List (TermId × RuleSet)) : Type 0 where
  pub ids : map (λ s. s.0) sets ≡ filter (λ (id : TermId). list_any (λ (r : Rule). r.root_term.0 == id.0) rs) (map (λ (i : ℕ). record { 0 = i }) (range_with_len 0 n))
  pub stand : All (λ (s : TermId × RuleSet). StandsFor env s.1 (filter (λ (r : Rule). r.root_term.0 == s.0.0) rs)) sets
