-- Rules with templates in place of the internal extractors that they use, and with variables numbered after it.
use Rattle.std.specs.Prelude.{◌<◌, ◌≤◌, ◌≡◌, List, map, Option, Some, None}
use Rattle.isle_core.specs.declared.rules.Pattern.{Pattern as CodePattern}
use Rattle.isle_core.specs.Pattern.{Pattern}
use Rattle.isle_core.specs.Rule.{Rule, IfLet}
use Rattle.isle_core.specs.RuleViews.{pattern as elaborated_pattern}
use Rattle.isle_templates.specs.NodeCount.{pattern_nodes}
use Rattle.isle_templates.specs.Substituted.{expanded, whole_templates}
use Rattle.isle_templates.specs.Renumbered.{renumbered}

-- a condition with templates replaced in its pattern
abbrev pub condition_expanded : List (Option Pattern) → IfLet → IfLet
condition_expanded templates c = record { lhs = expanded templates c.lhs; rhs = c.rhs }

-- a rule with templates replaced in its patterns and its conditions
abbrev pub rule_expanded : List (Option Pattern) → Rule → Rule
rule_expanded templates r = record { id = r.id; root_term = r.root_term; args = map (expanded templates) r.args; iflets = map (condition_expanded templates) r.iflets; rhs = r.rhs; prio = r.prio; pos = r.pos; name = r.name }

-- a rule as it is written, with templates replaced and its variables numbered by their places
abbrev pub elaborated : List (Option Pattern) → Rule → Rule
elaborated written r = renumbered (rule_expanded (whole_templates written) r)

-- a pattern with templates replaced; or there is none, since it has more nodes than a rule may have
abbrev pub IsExpanded : List (Option Pattern) → Pattern → Option CodePattern → Type 0
IsExpanded templates p None = 4096 < pattern_nodes (expanded templates p)
IsExpanded templates p (Some q) = (elaborated_pattern q ≡ expanded templates p) × (pattern_nodes (expanded templates p) ≤ 4096)
