use Rattle.std.proofs.Common.{◌∙◌, ap}
use Rattle.std.specs.Prelude.{codes}
use Rattle.isle_lawful_names.proofs.FoundLaws.{as_test}
use Rattle.isle_meta.specs.TableNames.{is_among, texts}
use Rattle.isle_meta.proofs.InstructionLaws.{three_tests}
use Rattle.isle_meta.proofs.misfits.has_ty_operand.Goals as goal

pub returns : goal.returns
returns c =
    let named = c.is_among-named.ensures ∙ ap (λ xs. is_among (codes "ty") (texts xs)) c.as_slice.ensures.value ∙ ap (is_among (codes "ty")) c.in_ok-names.ensures in
    as_test _ _ (three_tests _ _ _ _ _ _ c.takes_type_to_optimize-optimized.ensures c.takes_type_to_lower-lowered.ensures named)
