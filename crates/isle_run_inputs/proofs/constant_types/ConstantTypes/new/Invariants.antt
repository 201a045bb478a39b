use Rattle.std.proofs.Common.{drop}
use Rattle.isle_run_inputs.specs.ConstantTypes.{FindsConstants}
use Rattle.isle_run_inputs.proofs.constant_types.ConstantTypes.new.Given as goal

abbrev pub invariant-loop-index : goal.invariant-loop-index
invariant-loop-index l = FindsConstants l.fn.typeenv (drop l.index l.fn.typeenv.consts) l.types
