use Rattle.std.proofs.Common.{◌<◌, length, sym, ◌∙◌, arith}
use Rattle.isle_core.specs.HasType.{typed_fields}
use Rattle.isle_emission.proofs.FieldSteps.{left_out, not_left_out}
use Rattle.isle_emission.proofs.patterns.leaves_out.Goals as goal

pub returns-then-is_left_out : goal.returns-then-is_left_out
returns-then-is_left_out c = λ env.
    let lt : c.loop-index.index < length (typed_fields env c.args.fields.now) = omega (arith, c.loop-index-test.true, c.field_count-index-end.ensures env) in
    left_out (typed_fields env c.args.fields.now) c.args.places.now c.loop-index.index lt (sym c.is_left_out.ensures ∙ c.if-is_left_out.true) ∙ c.loop-index.invariant env

pub loop-index-preserved : goal.loop-index-preserved
loop-index-preserved c = λ env.
    let lt : c.loop-index.index < length (typed_fields env c.args.fields.now) = omega (arith, c.loop-index-test.true, c.field_count-index-end.ensures env) in
    not_left_out (typed_fields env c.args.fields.now) c.args.places.now c.loop-index.index lt (sym c.is_left_out.ensures ∙ c.if-is_left_out.false) ∙ c.loop-index.invariant env
