use Rattle.std.proofs.Common.{rules, ◌≡◌, Some, None, ap, ◌∙◌}
use Rattle.isle_scope.specs.Table.{held as table_held}
use Rattle.isle_running.specs.Steps.{list_in}
use Rattle.isle_running.proofs.LastBound.{table_looks}
use Rattle.isle_running.proofs.lists.items_of.Goals as goal

pub returns-in-Some : goal.returns-in-Some
returns-in-Some c =
    let e : Some c.in-Some.found.now ≡ table_held c.args.frame.now.locals c.args.local = search rules in
    c.items_in.ensures ∙ ap list_in (table_looks c.args.frame.now.locals c.args.local (Some c.in-Some.found.now) e)

pub returns-in-None : goal.returns-in-None
returns-in-None c =
    let e : None ≡ table_held c.args.frame.now.locals c.args.local = search rules in
    ap list_in (table_looks c.args.frame.now.locals c.args.local None e)
