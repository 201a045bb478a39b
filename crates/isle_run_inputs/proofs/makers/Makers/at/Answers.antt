use Rattle.std.proofs.Common.{◌∙◌, ap}
use Rattle.std.specs.Prelude.{slice_get}
use Rattle.isle_run_inputs.proofs.AtTypes.{placed, known_in, type_in}
use Rattle.isle_run_inputs.proofs.makers.Makers.at.Goals as goal

pub returns-clause-known : goal.returns-clause-known
returns-clause-known c =
    let h = c.get.ensures.lookup in
    known_in c.args.self.now c.get.result _ (placed c.args.self.now _ c.deref.result.now _ c.index.result c.get.result c.deref.ensures.value c.self.invariant c.self.view_is h.1 h.3)

pub returns-clause-found : goal.returns-clause-found
returns-clause-found c =
    let h = c.get.ensures.lookup in
    type_in c.args.self.now c.get.result _ (placed c.args.self.now _ c.deref.result.now _ c.index.result c.get.result c.deref.ensures.value c.self.invariant c.self.view_is h.1 h.3)
    ∙ ap (slice_get c.args.self.now.types) c.index.ensures
