use Rattle.std.proofs.Common.{◌≡◌, List, ◌++◌, map, Option}
use Rattle.isle_core.specs.Pattern.{Pattern}
use Rattle.isle_core.specs.RuleViews.{iflet}
use Rattle.isle_templates.specs.CountedConditions.{AreConditions}
use Rattle.isle_templates.specs.Elaborated.{condition_expanded}
use Rattle.isle_templates.specs.Standing.{StandFor}
use Rattle.isle_templates.proofs.conditions.iflets_expanded.Given as goal

abbrev pub invariant-loop-lhs : goal.invariant-loop-lhs
invariant-loop-lhs l = record {
  all : l.yielded ++ l.lhs-iterator.rest.items ≡ l.fn.iflets.items;
  conditions : (whole : List (Option Pattern)) → StandFor whole l.known.table.now l.known.below → AreConditions l.base (map (condition_expanded whole) (map iflet l.yielded)) l.found;
}
