use Rattle.std.proofs.Common.{ap, sym, ◌∙◌, rules}
use mathlib.Core.Path.{ap₂}
use Rattle.std.specs.Prelude.{pos}
use Rattle.std.specs.Int.{w128}
use Rattle.std.specs.Int.RustNames.{FitsSigned, bit_or, bit_xor}
use lib.Bits.{bit_and}
use Rattle.std.proofs.lemmas.Int.{to_z-of_z}
use Rattle.isle_numerics.specs.Meaning.{bitwise, number_of, opposite_pattern, pattern, reduced}
use Rattle.isle_numerics.proofs.PlaceLaws.{and_reduced, or_reduced, xor_reduced, not_reduced}
use Rattle.isle_numerics.proofs.bitwise.bitwise.Goals as goal

pub returns-in-And : goal.returns-in-And
returns-in-And c =
    let ty = c.args.ty in
    let gives : FitsSigned w128 c.reduced_unsigned.result = search rules in
    let a = to_z-of_z w128 c.args.a c.ranges.a in
    let b = to_z-of_z w128 c.args.b c.ranges.b in
    let p = c.pattern-p.ensures ∙ ap (λ z. pattern ty (number_of ty z)) a in
    let q = c.pattern-q.ensures ∙ ap (λ z. pattern ty (number_of ty z)) b in
    to_z-of_z w128 c.reduced_unsigned.result gives ∙ c.reduced_unsigned.ensures
    ∙ ap₂ (λ x y. reduced ty (pos (bit_and x y))) p q
    ∙ and_reduced ty (number_of ty c.args.a) (number_of ty c.args.b)
    ∙ ap (λ op. bitwise ty op (number_of ty c.args.a) (number_of ty c.args.b)) (sym c.in-And.is)

pub returns-in-Or : goal.returns-in-Or
returns-in-Or c =
    let ty = c.args.ty in
    let gives : FitsSigned w128 c.reduced_unsigned-in-Or.result = search rules in
    let a = to_z-of_z w128 c.args.a c.ranges.a in
    let b = to_z-of_z w128 c.args.b c.ranges.b in
    let p = c.pattern-p.ensures ∙ ap (λ z. pattern ty (number_of ty z)) a in
    let q = c.pattern-q.ensures ∙ ap (λ z. pattern ty (number_of ty z)) b in
    to_z-of_z w128 c.reduced_unsigned-in-Or.result gives ∙ c.reduced_unsigned-in-Or.ensures
    ∙ ap₂ (λ x y. reduced ty (pos (bit_or x y))) p q
    ∙ or_reduced ty (number_of ty c.args.a) (number_of ty c.args.b)
    ∙ ap (λ op. bitwise ty op (number_of ty c.args.a) (number_of ty c.args.b)) (sym c.in-Or.is)

pub returns-in-Xor : goal.returns-in-Xor
returns-in-Xor c =
    let ty = c.args.ty in
    let gives : FitsSigned w128 c.reduced_unsigned-in-Xor.result = search rules in
    let a = to_z-of_z w128 c.args.a c.ranges.a in
    let b = to_z-of_z w128 c.args.b c.ranges.b in
    let p = c.pattern-p.ensures ∙ ap (λ z. pattern ty (number_of ty z)) a in
    let q = c.pattern-q.ensures ∙ ap (λ z. pattern ty (number_of ty z)) b in
    to_z-of_z w128 c.reduced_unsigned-in-Xor.result gives ∙ c.reduced_unsigned-in-Xor.ensures
    ∙ ap₂ (λ x y. reduced ty (pos (bit_xor x y))) p q
    ∙ xor_reduced ty (number_of ty c.args.a) (number_of ty c.args.b)
    ∙ ap (λ op. bitwise ty op (number_of ty c.args.a) (number_of ty c.args.b)) (sym c.in-Xor.is)

pub returns-in-Not : goal.returns-in-Not
returns-in-Not c =
    let ty = c.args.ty in
    let gives : FitsSigned w128 c.reduced_unsigned-in-Not.result = search rules in
    let a = to_z-of_z w128 c.args.a c.ranges.a in
    to_z-of_z w128 c.reduced_unsigned-in-Not.result gives ∙ c.reduced_unsigned-in-Not.ensures
    ∙ ap (λ x. reduced ty (pos x)) (c.opposite_pattern.ensures.value ∙ ap (λ z. opposite_pattern ty (number_of ty z)) a)
    ∙ not_reduced ty (number_of ty c.args.a)
    ∙ ap (λ op. bitwise ty op (number_of ty c.args.a) (number_of ty c.args.b)) (sym c.in-Not.is)
