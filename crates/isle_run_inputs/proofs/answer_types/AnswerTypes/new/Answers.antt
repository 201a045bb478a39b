use Rattle.std.proofs.Common.{rules, ◌-◌}
use Rattle.isle_run_inputs.proofs.FindTypes.{external_more, internal_more}
use Rattle.isle_run_inputs.proofs.answer_types.AnswerTypes.new.Goals as goal

pub loop-index-preserved-in_ok-insert-in-External : goal.loop-index-preserved-in_ok-insert-in-External
loop-index-preserved-in_ok-insert-in-External c =
    external_more c.args.typeenv.now c.args.terms.now (c.loop-index.index - 1) c.index-terms-index.result _ c.impure_callee.result c.in-External.name c.loop-index.external c.insert.new.self c.loop-index.internal
    (search rules) c.index-terms-index.is c.impure_callee.ensures (search rules) (search rules) c.in_ok-insert-in-External.ensures.updates

pub loop-index-preserved-in_ok-insert-in-Internal : goal.loop-index-preserved-in_ok-insert-in-Internal
loop-index-preserved-in_ok-insert-in-Internal c =
    internal_more c.args.typeenv.now c.args.terms.now (c.loop-index.index - 1) c.index-terms-index.result _ c.impure_callee.result c.in-Internal.name c.loop-index.external c.loop-index.internal c.insert-in-Internal.new.self
    (search rules) c.index-terms-index.is c.impure_callee.ensures (search rules) (search rules) c.in_ok-insert-in-Internal.ensures.updates
