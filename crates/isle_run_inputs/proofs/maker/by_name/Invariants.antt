use Rattle.std.proofs.Common.{drop}
use Rattle.isle_run_inputs.specs.VariantFields.{FindsFields}
use Rattle.isle_run_inputs.proofs.maker.by_name.Given as goal

abbrev pub invariant-loop-index : goal.invariant-loop-index
invariant-loop-index l = FindsFields l.fn.typeenv (drop l.index l.fn.variants) l.found
