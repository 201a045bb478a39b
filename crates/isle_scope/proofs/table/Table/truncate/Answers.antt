use Rattle.std.proofs.Common.{take, zip, ap, ◌∙◌}
use Rattle.isle_scope.proofs.Tables.{zip_take}
use Rattle.isle_scope.proofs.table.Table.truncate.Goals as goal

pub returns : goal.returns
returns g c =
    ap (λ ls. zip ls c.truncate-2.new.self.items) c.truncate.ensures
    ∙ ap (λ xs. zip (take c.args.len c.self.inside.scope) xs) c.truncate-2.ensures.items
    ∙ zip_take c.args.len c.self.inside.scope c.self.inside.things.items
    ∙ ap (take c.args.len) c.self.view_is
