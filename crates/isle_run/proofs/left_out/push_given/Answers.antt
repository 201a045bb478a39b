use Rattle.std.proofs.Common.{rules, ◌∙◌, ℕ, List}
use Rattle.isle_core.specs.declared.values.Value.{Value as CodeValue}
use Rattle.isle_run.proofs.LeftOut.{given_more}
use Rattle.isle_run.proofs.left_out.push_given.Goals as goal

pub loop-constant-preserved : goal.loop-constant-preserved
loop-constant-preserved c =
    given_more (λ (d : List ℕ × CodeValue). d.0) c.args.given.now c.loop-constant.constant-index c.constant-item.result _ c.loop-constant.names.items c.push.new.self.items c.as_str.result c.loop-constant-test.true c.constant-item.is c.in_ok-push.ensures.items (search rules)
    ∙ c.loop-constant.invariant
