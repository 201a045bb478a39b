use Rattle.std.proofs.Common.{ap, sym, ◌∙◌, ◌%◌, rules, Some}
use mathlib.Core.Path.{ap₂}
use Rattle.std.specs.Int.{w128, cast_signed, cast_unsigned}
use Rattle.std.specs.Int.RustNames.{FitsSigned}
use Rattle.std.proofs.lemmas.Int.{to_z-of_z}
use Rattle.isle_numerics.specs.Meaning.{number_of, quotient}
use Rattle.isle_numerics.proofs.ExactLaws.{unsigned_left_of}
use Rattle.isle_numerics.proofs.arithmetic.unsigned_remainder.Goals as goal

pub returns-in-Some : goal.returns-in-Some
returns-in-Some c =
    let fits : FitsSigned w128 c.cast_signed.result = search rules in
    let a = to_z-of_z w128 c.args.a c.ranges.a in
    let b = to_z-of_z w128 c.args.b c.ranges.b in
    ap Some (to_z-of_z w128 c.cast_signed.result fits ∙ c.cast_signed.ensures
    ∙ ap₂ (λ x y. cast_signed w128 (x % y)) (c.cast_unsigned.ensures ∙ ap (cast_unsigned w128) a) (c.cast_unsigned-in-Some.ensures ∙ ap (cast_unsigned w128) b))
    ∙ unsigned_left_of c.args.ty c.args.a c.args.b c.in-Some.field-0 c.requires c.ranges.a
    (sym (ap₂ (λ x y. quotient c.args.ty (number_of c.args.ty x) (number_of c.args.ty y)) a b) ∙ sym c.quotient.ensures ∙ c.in-Some.is)
