use Rattle.std.proofs.Common.{drop}
use Rattle.isle_run_inputs.specs.AnswerTypes.{FindsTypes}
use Rattle.isle_run_inputs.proofs.answer_types.AnswerTypes.new.Given as goal

abbrev pub invariant-loop-index : goal.invariant-loop-index
invariant-loop-index l = FindsTypes l.fn.typeenv (drop l.index l.fn.terms) l.external l.internal
