use Rattle.std.proofs.Common.{rules, ◌-◌}
use Rattle.isle_places.proofs.FindItems.{fields_more}
use Rattle.isle_places.proofs.fields.by_field.Goals as goal

pub loop-index-preserved : goal.loop-index-preserved
loop-index-preserved c =
    fields_more c.args.fields.now (c.loop-index.index - 1) c.index-fields-index.result _ _ c.as_str.result c.loop-index.found c.insert.new.self (search rules) c.index-fields-index.is (search rules) (search rules) (search rules) c.in_ok-insert.ensures.updates
