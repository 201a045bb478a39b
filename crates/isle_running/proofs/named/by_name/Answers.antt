use Rattle.std.proofs.Common.{rules, ◌-◌}
use Rattle.isle_running.proofs.FindNamed.{values_more}
use Rattle.isle_running.proofs.named.by_name.Goals as goal

pub loop-index-preserved : goal.loop-index-preserved
loop-index-preserved c =
    values_more c.args.given.now (c.loop-index.index - 1) c.index-given-index.result _ _ c.as_str.result c.loop-index.found c.insert.new.self (search rules) c.index-given-index.is (search rules) c.as_str.ensures (search rules) c.in_ok-insert.ensures.updates
