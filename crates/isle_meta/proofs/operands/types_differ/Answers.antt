use Rattle.std.proofs.Common.{◌∙◌, ap, sym, drop, map}
use Rattle.std.proofs.Math.ListN.{drop_of_length-le}
use Rattle.isle_meta.specs.declared.clif.ImmField.{ImmField}
use Rattle.isle_meta.specs.InstructionRow as row
use Rattle.isle_meta.specs.TableNames.{texts}
use Rattle.isle_meta.proofs.InstructionLaws.{differ_none}
use Rattle.isle_meta.proofs.operands.types_differ.Goals as goal

pub returns-in_default : goal.returns-in_default
returns-in_default c =
    let left = texts (drop c.loop-at.at c.args.types.now) in
    differ_none left
    ∙ sym (ap (λ fs. row.types_differ left (map (λ (f : ImmField). f.rust_type) fs)) (drop_of_length-le c.args.fields.now c.in_default.ensures.lookup.3))
    ∙ c.loop-at.invariant
