use Rattle.std.proofs.Common.{◌≡◌, filter, take}
use Rattle.isle_rulesets.specs.Firsts.{are_two}
use Rattle.isle_rulesets.proofs.firsts.of_two.Given as goal

abbrev pub invariant-loop-equality : goal.invariant-loop-equality
invariant-loop-equality l = l.kept.items ≡ filter are_two (take l.equality-index l.equals)
