use Rattle.std.proofs.Common.{rules, ◌-◌, refl}
use Rattle.isle_run_inputs.proofs.FindConstants.{constant_more}
use Rattle.isle_run_inputs.proofs.constant_types.ConstantTypes.new.Goals as goal

pub loop-index-preserved : goal.loop-index-preserved
loop-index-preserved c =
    constant_more c.args.typeenv.now c.args.typeenv.now.consts c.as_slice-consts.result.now (c.loop-index.index - 1) _ _ c.named-entry.result.0 c.named-entry.result.1 c.loop-index.types c.insert.new.self
    (search rules) (search rules) refl c.named-entry.ensures.name c.named-entry.ensures.typed (search rules) c.in_ok-insert.ensures.updates
