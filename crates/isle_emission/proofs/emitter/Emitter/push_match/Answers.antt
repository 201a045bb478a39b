use Rattle.std.proofs.Common.{Some, ap, ◌∙◌}
use Rattle.isle_tree.specs.Program.{NoArm}
use Rattle.isle_simulation.specs.Statements.{match_of}
use Rattle.isle_emission.specs.Cases.{cases_onto}
use Rattle.isle_emission.proofs.Onto.{made_pushed}
use Rattle.isle_emission.proofs.emitter.Emitter.push_match.Goals as goal

pub returns : goal.returns
returns c =
    made_pushed c.args.out.now.items c.push.new.self.items c.match_over-made.result _
    (c.match_over-made.ensures ∙ ap (λ o. match_of o (cases_onto c.args.cases.items (Some NoArm))) c.in_ok-read.ensures)
    c.in_ok-push.ensures.items
