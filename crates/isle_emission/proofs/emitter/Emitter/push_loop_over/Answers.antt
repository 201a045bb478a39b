use Rattle.std.proofs.Common.{Some, map, ap, ◌∙◌}
use Rattle.isle_tree.specs.Program.{Done}
use Rattle.isle_tree.specs.Views.{stmt}
use Rattle.isle_simulation.specs.Statements.{loop_of}
use Rattle.isle_emission.specs.BodyOnto.{body_onto}
use Rattle.isle_emission.proofs.Onto.{made_pushed}
use Rattle.isle_emission.proofs.emitter.Emitter.push_loop_over.Goals as goal

pub returns : goal.returns
returns c =
    let i = body_onto (map stmt c.args.inside.items) (Some Done) in
    made_pushed c.args.out.now.items c.push.new.self.items c.loop_within-made.result _
    (c.loop_within-made.ensures ∙ ap (λ k. loop_of (Some c.list_of.result) k i) c.index.ensures ∙ ap (λ o. loop_of o c.args.item.0 i) c.list_of.ensures)
    c.in_ok-push.ensures.items
