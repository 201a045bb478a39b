use Rattle.std.proofs.Common.{◌≡◌, map, take}
use Rattle.isle_declarations.proofs.tables.extractor_numbers.Given as goal

abbrev pub invariant-loop-given : goal.invariant-loop-given
invariant-loop-given l = l.numbers.items ≡ map (λ x. x.number) (take l.given-index l.extractors)
