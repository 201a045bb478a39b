use Rattle.std.proofs.Common.{rules, ◌-◌}
use Rattle.isle_places.proofs.FindItems.{variants_more}
use Rattle.isle_places.proofs.types.by_variant.Goals as goal

pub loop-index-preserved-in_ok-insert : goal.loop-index-preserved-in_ok-insert
loop-index-preserved-in_ok-insert c =
    variants_more c.args.variants.now (c.loop-index.index - 1) c.index-variants-index.result _ _ c.as_str.result c.loop-index.found c.insert.new.self (search rules) c.index-variants-index.is (search rules) (search rules) (search rules) c.in_ok-insert.ensures.updates

pub loop-index-preserved : goal.loop-index-preserved
loop-index-preserved c =
    variants_more c.args.variants.now (c.loop-index.index - 1) c.index-variants-index.result _ _ c.as_str.result c.loop-index.found c.insert.new.self (search rules) c.index-variants-index.is (search rules) (search rules) (search rules) c.in_ok-insert.ensures.updates
