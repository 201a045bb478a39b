use Rattle.std.proofs.Common.{[], Some, ap, ◌∙◌}
use Rattle.isle_core.specs.BlockViews.{block}
use Rattle.isle_simulation.specs.TermFunction.{tail_in}
use Rattle.isle_emission.specs.MadeBodies.{made_body}
use Rattle.isle_emission.specs.Emitter.{setting_in, manner_in}
use Rattle.isle_emission.proofs.emitter.Emitter.root_stmts.Goals as goal

pub returns : goal.returns
returns c =
    let s = setting_in c.args.self.now in
    let b = block c.args.block.now in
    let end = Some (tail_in c.args.self.now.files.now s.env s.term b) in
    c.in_ok-push_tail.ensures
    ∙ c.in_ok-stmts.ensures.stmts end
    ∙ ap (λ ls. made_body (manner_in c.args.self.now) s ls b end) c.new-bound.ensures
    ∙ ap (λ x. made_body (record (manner_in c.args.self.now) { inside = x }) s [] b end) c.requires.outside
