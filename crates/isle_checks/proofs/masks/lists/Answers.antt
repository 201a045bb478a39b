use Rattle.std.proofs.Common.{rules, subst}
use Rattle.std.proofs.lemmas.List.{take_all}
use Rattle.isle_checks.specs.Lists.{AreLists, listing}
use Rattle.isle_checks.specs.Masks.{BearsKey}
use Rattle.isle_checks.proofs.ListLaws.{listed_more}
use Rattle.isle_checks.proofs.masks.lists.Goals as goal

pub loop-placed-preserved : goal.loop-placed-preserved
loop-placed-preserved c =
    listed_more BearsKey c.args.group.now c.loop-placed.placed-index c.placed-item.result c.rarest-key.result (listing c.loop-placed.lists) (listing c.push.new.self) c.requires c.loop-placed-test.true c.placed-item.is (search rules) c.in_ok-push.ensures c.loop-placed.invariant

pub returns : goal.returns
returns c = subst (λ front. AreLists BearsKey front (listing c.loop-placed.lists)) (take_all c.loop-placed.placed-index c.args.group.now c.loop-placed-test.false) c.loop-placed.invariant
