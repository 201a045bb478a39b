use Rattle.std.proofs.Common.{ap, ◌∙◌}
use Rattle.isle_core.specs.Having.{const_of}
use Rattle.isle_core.specs.ValueViews.{meaning}
use Rattle.isle_running.specs.Called.{Called}
use Rattle.isle_running.proofs.NamedValues.{const_named}
use Rattle.isle_running.proofs.called.Calls.constant.Goals as goal

pub returns : goal.returns
returns c =
    const_named c.self.inside.answers.now c.self.inside.constants c.args.name.now c.value.result c.value.ensures c.self.invariant.1
    ∙ ap (λ (s : Called). const_of (meaning s.answers) c.args.name.now) c.self.view_is
