use Rattle.std.proofs.Common.{ap, ◌∙◌, rules}
use Rattle.std.specs.Int.{w128, int_wrapping_neg}
use Rattle.std.specs.Int.RustNames.{FitsSigned}
use Rattle.std.proofs.lemmas.Int.{to_z-of_z}
use Rattle.isle_numerics.specs.Meaning.{reduced}
use Rattle.isle_numerics.proofs.WrapLaws.{opposite_reduced}
use Rattle.isle_numerics.proofs.negation.wrapping_opposite.Goals as goal

pub returns : goal.returns
returns c =
    let fits : FitsSigned w128 c.wrapping_neg.result = search rules in
    let gives : FitsSigned w128 c.reduced.result = search rules in
    to_z-of_z w128 c.reduced.result gives ∙ c.reduced.ensures
    ∙ ap (reduced c.args.ty) (to_z-of_z w128 c.wrapping_neg.result fits ∙ c.wrapping_neg.ensures ∙ ap (int_wrapping_neg w128) (to_z-of_z w128 c.args.a c.ranges.a))
    ∙ opposite_reduced c.args.ty c.args.a c.ranges.a
