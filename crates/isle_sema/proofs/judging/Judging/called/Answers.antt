use Rattle.std.proofs.Common.{rules}
use Rattle.isle_sema.specs.Site.{CalledAt}
use Rattle.isle_sema.proofs.Judgements.{when_called, called_judged}
use Rattle.isle_sema.proofs.judging.Judging.called.Goals as goal

pub returns : goal.returns
returns c = λ w s h.
    when_called w c.args.self.now.rows _ (λ x. CalledAt c.args.expected x c.args.count) s c.args.callee.now c.in-Some.callee (search rules) h
    (λ x k. called_judged w x c.in-Some.callee c.args.self.now.rows c.args.expected c.args.count c.is_other_type.result c.is_other_type.ensures k)
