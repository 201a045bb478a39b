use Rattle.std.proofs.Common.{Some, map, ap, ◌∙◌}
use Rattle.isle_tree.specs.Program.{Done}
use Rattle.isle_tree.specs.Views.{stmt}
use Rattle.isle_simulation.specs.Statements.{if_eq}
use Rattle.isle_emission.specs.BodyOnto.{body_onto}
use Rattle.isle_emission.specs.Emitter.{operand_in}
use Rattle.isle_emission.proofs.Onto.{made_pushed}
use Rattle.isle_emission.proofs.emitter.Emitter.push_equal_test.Goals as goal

pub returns : goal.returns
returns c =
    let i = body_onto (map stmt c.args.inside.items) (Some Done) in
    made_pushed c.args.out.now.items c.push.new.self.items c.test_within-made.result _
    (c.test_within-made.ensures
    ∙ ap (λ o. if_eq o (Some c.in_ok-second.second) i) c.in_ok-first.ensures
    ∙ ap (λ o. if_eq (operand_in c.args.self.now c.args.bound.now c.args.of.0) o i) c.in_ok-second.ensures)
    c.in_ok-push.ensures.items
