use Rattle.std.proofs.Common.{ap, ◌∙◌, rules}
use mathlib.Core.Path.{ap₂}
use Rattle.std.specs.Int.{w128, int_wrapping_div}
use Rattle.std.specs.Int.RustNames.{FitsSigned}
use Rattle.std.proofs.lemmas.Int.{to_z-of_z}
use Rattle.isle_numerics.specs.Meaning.{reduced}
use Rattle.isle_numerics.proofs.ExactLaws.{quotient_given, quotient_reduced}
use Rattle.isle_numerics.proofs.arithmetic.signed_wrapping_quotient.Goals as goal

pub returns : goal.returns
returns c =
    let fits : FitsSigned w128 c.wrapping_div.result = search rules in
    let gives : FitsSigned w128 c.reduced.result = search rules in
    let a = to_z-of_z w128 c.args.a c.ranges.a in
    let b = to_z-of_z w128 c.args.b c.ranges.b in
    quotient_given c.args.ty c.args.a c.args.b _ c.if-b-eq0.false
    (to_z-of_z w128 c.reduced.result gives ∙ c.reduced.ensures
    ∙ ap (reduced c.args.ty) (to_z-of_z w128 c.wrapping_div.result fits ∙ c.wrapping_div.ensures ∙ ap₂ (int_wrapping_div w128) a b)
    ∙ quotient_reduced c.args.ty c.args.a c.args.b c.ranges.a)
