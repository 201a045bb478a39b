use Rattle.std.proofs.Common.{List, map, take}
use Rattle.std.specs.Prelude.{Option}
use Rattle.isle_core.specs.Pattern.{Pattern}
use Rattle.isle_core.specs.RuleViews.{pattern as elaborated}
use Rattle.isle_templates.specs.Arguments.{needed, AreArguments}
use Rattle.isle_templates.specs.Counted.{AreParts}
use Rattle.isle_templates.specs.Occurrences.{times_in}
use Rattle.isle_templates.specs.Renumbered.{pattern_variables}
use Rattle.isle_templates.specs.Standing.{IsKept, StandFor}
use Rattle.isle_templates.specs.Substituted.{expanded}
use Rattle.isle_templates.proofs.expansion.+expanding.Given as goal

abbrev pub invariant-all_expanded-loop-p : goal.invariant-all_expanded-loop-p
invariant-all_expanded-loop-p l = (whole : List (Option Pattern)) → StandFor whole l.known.table.now l.known.below → AreParts l.base (map (expanded whole) (map elaborated (take l.p-index l.parts))) l.found

abbrev pub invariant-opened-loop-parameter : goal.invariant-opened-loop-parameter
invariant-opened-loop-parameter l = (whole inner : List (Option Pattern)) (t : Pattern) → StandFor whole l.known.table.now l.known.below → IsKept inner t l.kept
    → AreArguments l.kept.nodes (times_in (pattern_variables t)) (needed (times_in (pattern_variables t)) 0 (map (expanded whole) (map elaborated (take l.parameter l.args)))) l.found
