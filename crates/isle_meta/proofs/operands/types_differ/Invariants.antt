use Rattle.std.proofs.Common.{◌≡◌, drop, map}
use Rattle.isle_meta.specs.declared.clif.ImmField.{ImmField}
use Rattle.isle_meta.specs.InstructionRow.{types_differ}
use Rattle.isle_meta.specs.TableNames.{texts}
use Rattle.isle_meta.proofs.operands.types_differ.Given as goal

abbrev pub invariant-loop-at : goal.invariant-loop-at
invariant-loop-at l =
    types_differ (texts (drop l.at l.types)) (map (λ (f : ImmField). f.rust_type) (drop l.at l.fields))
    ≡ types_differ (texts l.types) (map (λ (f : ImmField). f.rust_type) l.fields)
