use Rattle.std.proofs.Common.{false}
use Rattle.isle_numerics.specs.declared.numeric_type.NumericType.{NumericType}
use Rattle.isle_numerics.specs.Definitions.{type_defs}
use Rattle.isle_numerics.specs.NumericTypes.{numeric}
use Rattle.isle_numeric_text.specs.Among.{terms_of}
use Rattle.isle_numeric_text.proofs.TermLaws.{terms_step}
use Rattle.isle_numeric_text.proofs.term_names.push_types.Goals as goal

pub loop-ty-preserved : goal.loop-ty-preserved
loop-ty-preserved c =
    terms_step (λ (ty : NumericType). terms_of (type_defs ty)) c.args.types.now c.loop-ty.ty-index
    (numeric false 0) _ _ _ c.loop-ty-test.true c.loop-ty.invariant c.in_ok-push_type.ensures
