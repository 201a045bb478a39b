use Rattle.std.proofs.Common.{◌≡◌, Some, map, ap, sym, ◌∙◌, subst}
use Rattle.isle_core.specs.declared.blocks.ControlFlow.TheViews.{out-MatchArm}
use Rattle.isle_core.specs.BlockViews.{SeenArm, block, arm}
use Rattle.isle_core.proofs.SeesBlocks.{arm-parts}
use Rattle.isle_tree.specs.Program.{Done}
use Rattle.isle_tree.specs.Views.{stmt}
use Rattle.isle_simulation.specs.Statements.{arm_stmt}
use Rattle.isle_emission.specs.BodyOnto.{body_onto}
use Rattle.isle_emission.specs.Built.{IsTested}
use Rattle.isle_emission.specs.Emitter.{setting_in}
use Rattle.isle_emission.proofs.Onto.{made_pushed}
use Rattle.isle_emission.proofs.emitter.Emitter.push_arm_test.Goals as goal

pub arm_test-requires : goal.arm_test-requires
arm_test-requires c =
    let x = out-MatchArm c.args.arm.now in
    let seen : arm c.args.arm.now ≡ (x.constraint, c.as_slice-places.result.now, block x.body) = arm-parts c.args.arm.now ∙ ap (λ ps. (x.constraint, ps, block x.body)) (sym c.as_slice-places.ensures) in
    subst (λ (k : SeenArm). IsTested (setting_in c.args.self.now) c.args.bound.now c.args.source k.0 k.1) seen c.requires

pub returns : goal.returns
returns c =
    let s = setting_in c.args.self.now in
    let x = out-MatchArm c.args.arm.now in
    let i = body_onto (map stmt c.args.inside.items) (Some Done) in
    let seen : arm c.args.arm.now ≡ (x.constraint, c.as_slice-places.result.now, block x.body) = arm-parts c.args.arm.now ∙ ap (λ ps. (x.constraint, ps, block x.body)) (sym c.as_slice-places.ensures) in
    made_pushed c.args.out.now.items c.push.new.self.items c.test_within-made.result _
    (c.test_within-made.ensures ∙ c.in_ok-test.ensures i ∙ ap (λ (k : SeenArm). arm_stmt s c.args.bound.now c.args.source k.0 k.1 i) (sym seen))
    c.in_ok-push.ensures.items
