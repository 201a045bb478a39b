use Rattle.std.proofs.Common.{◌≡◌, map, take}
use Rattle.isle_declarations.proofs.tables.signature_numbers.Given as goal

abbrev pub invariant-loop-signature : goal.invariant-loop-signature
invariant-loop-signature l = l.numbers.items ≡ map (λ x. x.number) (take l.signature-index l.signatures)
