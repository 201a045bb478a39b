use Rattle.std.proofs.Common.{ap, ◌∙◌}
use Rattle.isle_tree.specs.WellFormed.{Callables, head_of}
use Rattle.isle_tree.proofs.FindHeads.{head_found}
use Rattle.isle_tree.proofs.callables.Callables.head.Goals as goal

pub returns : goal.returns
returns c =
    head_found c.args.term.now c.self.inside.terms c.named.result c.named.ensures
    ∙ ap (λ (x : Callables). head_of x.heads c.args.term.now) c.self.view_is
