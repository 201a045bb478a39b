-- Elaborated rules, if they have few enough nodes.
use Rattle.std.specs.Prelude.{◌≡◌, ◌<◌, ◌≤◌, List, Option, Some, None}
use Rattle.isle_core.specs.declared.rules.Rule.{Rule as CodeRule}
use Rattle.isle_core.specs.Pattern.{Pattern}
use Rattle.isle_core.specs.Rule.{Rule}
use Rattle.isle_core.specs.RuleViews.{rule}
use Rattle.isle_templates.specs.Elaborated.{elaborated, rule_expanded}
use Rattle.isle_templates.specs.NodeCount.{rule_nodes}
use Rattle.isle_templates.specs.Substituted.{whole_templates}

-- a rule with templates replaced; or there is none, since it has more nodes than a rule may have
abbrev pub IsRuleExpanded : List (Option Pattern) → Rule → Option CodeRule → Type 0
IsRuleExpanded templates r None = 4096 < rule_nodes (rule_expanded templates r)
IsRuleExpanded templates r (Some q) = (rule q ≡ rule_expanded templates r) × (rule_nodes (rule_expanded templates r) ≤ 4096)

-- a rule as it is written, elaborated; or there is none, since it has more nodes than a rule may have
abbrev pub IsElaborated : List (Option Pattern) → Rule → Option CodeRule → Type 0
IsElaborated written r None = 4096 < rule_nodes (rule_expanded (whole_templates written) r)
IsElaborated written r (Some q) = (rule q ≡ elaborated written r) × (rule_nodes (rule_expanded (whole_templates written) r) ≤ 4096)
