use Rattle.std.proofs.Common.{◌≡◌, rules}
use Rattle.isle_templates.specs.Multi.{marked}
use Rattle.isle_sema.specs.Site.{TakenAt}
use Rattle.isle_sema.proofs.Judgements.{when_called, taken_judged}
use Rattle.isle_sema.proofs.judging.Judging.taken.Goals as goal

pub returns : goal.returns
returns c = λ w s h.
    let mark : c.marked.result ≡ marked c.args.self.now.rows.multis.now c.in-Some.callee.term.0 = search rules in
    when_called w c.args.self.now.rows _ (λ x. TakenAt c.args.expected x c.args.count) s c.args.callee.now c.in-Some.callee (search rules) h
    (λ x k. taken_judged w x c.in-Some.callee c.args.self.now.rows c.args.expected c.args.count c.is_other_type.result c.marked.result mark c.is_other_type.ensures k)
