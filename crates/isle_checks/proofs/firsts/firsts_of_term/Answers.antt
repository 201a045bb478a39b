use Rattle.std.proofs.lemmas.Result.{IfOk-weaker}
use Rattle.isle_checks.proofs.FirstLaws.{firsts_of_single, firsts_of_multi}
use Rattle.isle_checks.proofs.firsts.firsts_of_term.Goals as goal

pub returns-then-multi : goal.returns-then-multi
returns-then-multi c = rw c.if-multi.true (IfOk-weaker c.none_found.result _ _ (λ found none. firsts_of_multi c.args.check c.args.rules.now found.items none) c.none_found.ensures)

pub returns : goal.returns
returns c = rw c.if-multi.false (IfOk-weaker c.firsts.result _ _ (λ found are. firsts_of_single c.args.check c.args.rules.now found.items are) c.firsts.ensures)
