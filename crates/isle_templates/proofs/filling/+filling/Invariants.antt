use Rattle.std.proofs.Common.{◌≡◌, ◌+◌, ◌*◌, List, map, take}
use Rattle.std.specs.Prelude.{Option}
use Rattle.isle_core.specs.Pattern.{Pattern}
use Rattle.isle_core.specs.RuleViews.{pattern as elaborated, patterns_of}
use Rattle.isle_templates.specs.NodeCount.{pattern_nodes, patterns_nodes}
use Rattle.isle_templates.specs.Standing.{StandFor}
use Rattle.isle_templates.specs.Substituted.{expanded, substituted}
use Rattle.isle_templates.proofs.KnownSteps.{weight}
use Rattle.isle_templates.proofs.filling.+filling.Given as goal

abbrev pub invariant-each_filled-loop-p : goal.invariant-each_filled-loop-p
invariant-each_filled-loop-p l = (whole : List (Option Pattern)) → StandFor whole l.known.table.now l.known.below
    → map elaborated l.found.items ≡ map (λ p. substituted (map elaborated l.args) (expanded whole p)) (map elaborated (take l.p-index l.parts))

abbrev pub decreases-filled : goal.decreases-filled
decreases-filled l = 3 * (weight l.known.below l.known.table.now + pattern_nodes (elaborated l.template.now))

abbrev pub decreases-each_filled : goal.decreases-each_filled
decreases-each_filled l = 3 * (weight l.known.below l.known.table.now + patterns_nodes (patterns_of (map elaborated l.parts.now))) + 1

abbrev pub decreases-term_filled : goal.decreases-term_filled
decreases-term_filled l = 3 * weight l.known.below l.known.table.now + 2
