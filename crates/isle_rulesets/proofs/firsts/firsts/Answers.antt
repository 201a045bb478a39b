use Rattle.isle_rulesets.proofs.FirstLaws.{first_pushed, first_left, first_all}
use Rattle.isle_rulesets.proofs.firsts.firsts.Goals as goal
use Rattle.isle_rulesets.proofs.firsts.firsts.Goals.{then-branch+in_ok-push, else-branch}

pub loop-item-preserved : goal.loop-item-preserved
loop-item-preserved g c = elim c.if-branch.branch [
  | then-branch+in_ok-push w ↦
      rw w.found-is
      (first_pushed g.met.T.Ord.total c.requires c.args.items.now c.loop-item.found.items w.push.new.self.items c.loop-item.seen c.insert.new.self c.loop-item.item-index c.item-item.result c.in_ok-insert.field-0
      c.loop-item-test.true c.item-item.is c.in_ok-insert.ensures.added w.if-branch.true c.in_ok-insert.ensures.updates w.in_ok-push.ensures.items c.loop-item.invariant)
  | else-branch w ↦
      rw w.found-is
      (first_left g.met.T.Ord.total c.requires c.args.items.now c.loop-item.found.items c.loop-item.seen c.insert.new.self c.loop-item.item-index c.item-item.result c.in_ok-insert.field-0
      c.loop-item-test.true c.item-item.is c.in_ok-insert.ensures.added w.if-branch.false c.in_ok-insert.ensures.unchanged c.loop-item.invariant)
]

pub returns : goal.returns
returns g c = first_all c.args.items.now c.loop-item.seen.keys c.loop-item.found.items c.loop-item.item-index c.loop-item-test.false c.loop-item.invariant
