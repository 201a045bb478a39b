use Rattle.std.proofs.Common.{rules, ◌≡◌, Some, None, ap, ◌∙◌}
use Rattle.std.proofs.lemmas.Result.{IfOk-weaker}
use Rattle.isle_scope.specs.Table.{held as table_held}
use Rattle.isle_tree.specs.Run.{look}
use Rattle.isle_running.specs.RunViews.{held, locals}
use Rattle.isle_running.proofs.LastBound.{table_looks}
use Rattle.isle_running.proofs.reading.local_value.Goals as goal

pub returns-in-Some : goal.returns-in-Some
returns-in-Some c =
    let e : Some c.in-Some.found.now ≡ table_held c.args.frame.now.locals c.args.local = search rules in
    IfOk-weaker c.holding_copied.result (λ h. h ≡ c.in-Some.found.now) (λ h. held h ≡ look (locals c.args.frame.now.locals) c.args.local)
    (λ h same. ap held same ∙ table_looks c.args.frame.now.locals c.args.local (Some c.in-Some.found.now) e) c.holding_copied.ensures

pub returns-in-None : goal.returns-in-None
returns-in-None c =
    let e : None ≡ table_held c.args.frame.now.locals c.args.local = search rules in
    table_looks c.args.frame.now.locals c.args.local None e
