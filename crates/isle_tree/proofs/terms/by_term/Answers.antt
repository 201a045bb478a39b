use Rattle.std.proofs.Common.{rules, ◌-◌}
use Rattle.isle_tree.proofs.FindTerms.{terms_more}
use Rattle.isle_tree.proofs.terms.by_term.Goals as goal

pub loop-index-preserved : goal.loop-index-preserved
loop-index-preserved c =
    terms_more c.args.fns.now (c.loop-index.index - 1) c.index-fns-index.result _ _ c.as_str.result c.loop-index.found c.insert.new.self (search rules) c.index-fns-index.is (search rules) c.as_str.ensures (search rules) c.in_ok-insert.ensures.updates
