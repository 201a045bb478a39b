use Rattle.std.proofs.Common.{◌≡◌, map, take}
use Rattle.isle_declarations.proofs.tables.rule_numbers.Given as goal

abbrev pub invariant-loop-rule : goal.invariant-loop-rule
invariant-loop-rule l = l.numbers.items ≡ map (λ x. x.number) (take l.rule-index l.rules)
