-- Walks of rule sets are walks of rules.
use Rattle.std.proofs.Common.{◌↔◌, List, [], ◌∷◌}
use Rattle.isle_core.specs.declared.TermId.{TermId}
use Rattle.isle_core.specs.declared.rule_sets.RuleSet.{RuleSet}
use Rattle.isle_core.specs.Rule.{Environment}
use Rattle.isle_rulesets.specs.Grouping.{AreRuleSets}
use Rattle.isle_checks.specs.ClosedWalks.{IsWalk, IsOnClosedWalk}
use Rattle.isle_checks.specs.Recursions.{IsUnmarked}
use Rattle.isle_checks.specs.RuleWalks.{IsRuleWalk, IsOnRuleWalk, IsUnmarkedTerm}
use Rattle.isle_checks.proofs.RuleUses.{HaveHeads, set_uses, rules_use}

module _ (env : Environment) (sets : List (TermId × RuleSet)) (stand : AreRuleSets env sets) (heads : HaveHeads env) where
  walk_of_rules : (from to : TermId) (between : List TermId) → IsWalk env.terms sets from between to → IsRuleWalk env from between to
  walk_of_rules from to [] walk = set_uses env sets stand heads from to walk
  walk_of_rules from to (next ∷ rest) walk = (set_uses env sets stand heads from next walk.0, walk_of_rules next to rest walk.1)

  walk_of_sets : (from to : TermId) (between : List TermId) → IsRuleWalk env from between to → IsWalk env.terms sets from between to
  walk_of_sets from to [] walk = rules_use env sets stand heads from to walk
  walk_of_sets from to (next ∷ rest) walk = (rules_use env sets stand heads from next walk.0, walk_of_sets next to rest walk.1)

  -- a term is on a closed walk of rule sets exactly if it is on one of rules
  pub same_closed_walks : (id : TermId) → IsOnClosedWalk env.terms sets id ↔ IsOnRuleWalk env id
  same_closed_walks id = ((λ walk. (walk.0, walk_of_rules id id walk.0 walk.1)), (λ walk. (walk.0, walk_of_sets id id walk.0 walk.1)))

  -- a term is told by its rule set exactly if its rules say so
  pub same_unmarked : (id : TermId) → IsUnmarked env.terms sets id ↔ IsUnmarkedTerm env id
  same_unmarked id = ((λ h. ((same_closed_walks id).0 h.0, h.1)), (λ h. ((same_closed_walks id).1 h.0, h.1)))
