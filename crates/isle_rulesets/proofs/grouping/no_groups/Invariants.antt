use Rattle.std.proofs.Common.{[]}
use Rattle.isle_rulesets.specs.Grouping.{AreGroups}
use Rattle.isle_rulesets.proofs.grouping.no_groups.Given as goal

abbrev pub invariant-loop : goal.invariant-loop
invariant-loop l = AreGroups l.groups.items l.counter []
