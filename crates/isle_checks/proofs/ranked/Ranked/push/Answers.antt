use Rattle.isle_checks.proofs.RankLaws.{tops_push}
use Rattle.isle_checks.proofs.ranked.Ranked.push.Goals as goal

pub invariant_of-self-in-Ok : goal.invariant_of-self-in-Ok
invariant_of-self-in-Ok c =
    rw (c.in_ok-push.ensures.items, c.in-Ok.ensures.items)
    (tops_push c.self.inside.rules.items c.self.inside.tops.items c.self.invariant c.args.placed c.highest-top.result (rw c.as_slice.ensures.value at c.highest-top.ensures))
