use Rattle.std.proofs.Common.{sym, subst}
use Rattle.isle_checks.specs.Ranked.{IsTail}
use Rattle.isle_checks.proofs.RankLaws.{rest_whole, tail_of}
use Rattle.isle_checks.proofs.ranked.Ranked.above.Goals as goal

pub returns : goal.returns
returns c =
    rw (c.as_slice.ensures.value, sym c.self.view_is) (subst (IsTail c.args.than.now.rule.now.prio c.self.inside.rules.items) (sym (rest_whole c.self.inside.rules.items c.passed.result))
    (tail_of c.self.inside.rules.items c.self.inside.tops.items c.args.than.now.rule.now.prio c.passed.result c.self.invariant (rw c.as_slice-2.ensures.value at c.passed.ensures)))
