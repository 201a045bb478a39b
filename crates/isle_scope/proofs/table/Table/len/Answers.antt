use Rattle.std.proofs.Common.{length, sym, ap, ◌∙◌}
use Rattle.isle_scope.proofs.Tables.{zip_length}
use Rattle.isle_scope.proofs.table.Table.len.Goals as goal

pub returns : goal.returns
returns g c = c.len.ensures ∙ sym (zip_length c.self.inside.scope c.self.inside.things.items c.self.invariant) ∙ ap length c.self.view_is
