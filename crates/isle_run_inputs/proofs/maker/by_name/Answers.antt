use Rattle.std.proofs.Common.{rules, ◌-◌, refl}
use Rattle.isle_run_inputs.proofs.FindFields.{variant_more}
use Rattle.isle_run_inputs.proofs.maker.by_name.Goals as goal

pub loop-index-preserved : goal.loop-index-preserved
loop-index-preserved c =
    variant_more c.args.typeenv.now c.args.variants.now (c.loop-index.index - 1) c.index-variants-index.result _ c.symbol.result _ c.loop-index.found c.insert.new.self (search rules) c.index-variants-index.is c.symbol.ensures refl (search rules) c.in_ok-insert.ensures.updates
