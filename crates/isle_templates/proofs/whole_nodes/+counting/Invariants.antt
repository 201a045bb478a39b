use Rattle.std.proofs.Common.{◌+◌, List, map, take}
use Rattle.std.specs.Prelude.{Option}
use Rattle.isle_core.specs.Pattern.{Pattern}
use Rattle.isle_core.specs.RuleViews.{pattern as elaborated}
use Rattle.isle_templates.specs.Occurrences.{times_kept}
use Rattle.isle_templates.specs.SameCount.{SameCount}
use Rattle.isle_templates.specs.Standing.{IsKept, StandFor}
use Rattle.isle_templates.specs.Substituted.{expanded}
use Rattle.isle_templates.proofs.OccurrenceSums.{by_times}
use Rattle.isle_templates.proofs.WholeNodeSteps.{base_of, extra_in}
use Rattle.isle_templates.proofs.whole_nodes.+counting.Given as goal

abbrev pub invariant-all_whole_nodes-loop-p : goal.invariant-all_whole_nodes-loop-p
invariant-all_whole_nodes-loop-p l = (whole : List (Option Pattern)) → StandFor whole l.known.table.now l.known.below → SameCount l.nodes (base_of (map (expanded whole) (map elaborated (take l.p-index l.parts))))

abbrev pub invariant-opened_nodes-loop-parameter : goal.invariant-opened_nodes-loop-parameter
invariant-opened_nodes-loop-parameter l = (whole inner : List (Option Pattern)) (t : Pattern) → StandFor whole l.known.table.now l.known.below → IsKept inner t l.kept
    → SameCount l.nodes (l.kept.nodes + by_times (extra_in (map (expanded whole) (map elaborated l.args))) (times_kept l.kept.times.items) l.parameter)
