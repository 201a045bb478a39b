use Rattle.std.proofs.Common.{subst}
use Rattle.std.proofs.lemmas.List.{take_all}
use Rattle.isle_checks.specs.Lists.{AreLists, listing}
use Rattle.isle_checks.specs.Splitter.{HasKey}
use Rattle.isle_checks.proofs.ListLaws.{listed_more}
use Rattle.isle_checks.proofs.splitter.Splitter.lists.Goals as goal

pub loop-placed-preserved : goal.loop-placed-preserved
loop-placed-preserved c =
    listed_more (HasKey c.args.self) c.args.group.now c.loop-placed.placed-index c.placed-item.result c.key.result (listing c.loop-placed.lists) (listing c.push.new.self) c.requires c.loop-placed-test.true c.placed-item.is c.key.ensures c.in_ok-push.ensures c.loop-placed.invariant

pub returns : goal.returns
returns c = subst (λ front. AreLists (HasKey c.args.self) front (listing c.loop-placed.lists)) (take_all c.loop-placed.placed-index c.args.group.now c.loop-placed-test.false) c.loop-placed.invariant
