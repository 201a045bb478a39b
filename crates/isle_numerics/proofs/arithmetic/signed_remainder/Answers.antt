use Rattle.std.proofs.Common.{ap, sym, ◌∙◌, rules, Some}
use mathlib.Core.Path.{ap₂}
use Rattle.std.specs.Int.{w128}
use Rattle.std.specs.Int.RustNames.{FitsSigned, int_rem}
use Rattle.std.proofs.lemmas.Int.{to_z-of_z}
use Rattle.isle_numerics.specs.Meaning.{number_of, quotient}
use Rattle.isle_numerics.proofs.ExactLaws.{signed_left_of}
use Rattle.isle_numerics.proofs.arithmetic.signed_remainder.Goals as goal

pub returns-in-Some : goal.returns-in-Some
returns-in-Some c =
    let fits : FitsSigned w128 c.wrapping_rem.result = search rules in
    let a = to_z-of_z w128 c.args.a c.ranges.a in
    let b = to_z-of_z w128 c.args.b c.ranges.b in
    ap Some (to_z-of_z w128 c.wrapping_rem.result fits ∙ c.wrapping_rem.ensures ∙ ap₂ int_rem a b)
    ∙ signed_left_of c.args.ty c.args.a c.args.b c.in-Some.field-0 c.requires c.ranges.a
    (sym (ap₂ (λ x y. quotient c.args.ty (number_of c.args.ty x) (number_of c.args.ty y)) a b) ∙ sym c.quotient.ensures ∙ c.in-Some.is)
