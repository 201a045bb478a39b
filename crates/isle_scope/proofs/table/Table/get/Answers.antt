use Rattle.std.proofs.Common.{ap, ◌∙◌}
use Rattle.isle_scope.specs.Table.{at_place, held}
use Rattle.isle_scope.proofs.Tables.{reads_last}
use Rattle.isle_scope.proofs.table.Table.get.Goals as goal

pub returns : goal.returns
returns g c =
    c.thing_at.ensures
    ∙ ap (λ xs. at_place xs c.place.result) c.as_slice.ensures.value
    ∙ ap (at_place c.self.inside.things.items) c.place.ensures
    ∙ reads_last c.self.inside.scope c.self.inside.things.items c.args.local c.self.invariant
    ∙ ap (λ bound. held bound c.args.local) c.self.view_is
