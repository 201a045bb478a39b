use Rattle.std.proofs.Common.{◌≡◌, ◌++◌, [], ◌∷◌, ap, sym, ◌∙◌, subst}
use Rattle.isle_core.specs.declared.blocks.ControlFlow.TheViews.{out-MatchArm}
use Rattle.isle_core.specs.BlockViews.{SeenArm, block, arm}
use Rattle.isle_core.proofs.SeesBlocks.{arm-parts}
use Rattle.isle_emission.specs.Built.{HasPattern}
use Rattle.isle_emission.specs.Emitter.{setting_in}
use Rattle.isle_emission.proofs.CaseSteps.{arm_pushed}
use Rattle.isle_emission.proofs.emitter.Emitter.push_arm_case.Goals as goal

pub arm_pattern-requires : goal.arm_pattern-requires
arm_pattern-requires c =
    let x = out-MatchArm c.args.arm.now in
    let seen : arm c.args.arm.now ≡ (x.constraint, c.as_slice.result.now, block x.body) = arm-parts c.args.arm.now ∙ ap (λ ps. (x.constraint, ps, block x.body)) (sym c.as_slice.ensures) in
    subst (λ (k : SeenArm). HasPattern (setting_in c.args.self.now) k.0 k.1) seen c.requires

pub returns : goal.returns
returns c =
    let x = out-MatchArm c.args.arm.now in
    let seen : arm c.args.arm.now ≡ (x.constraint, c.as_slice.result.now, block x.body) = arm-parts c.args.arm.now ∙ ap (λ ps. (x.constraint, ps, block x.body)) (sym c.as_slice.ensures) in
    arm_pushed (setting_in c.args.self.now) (arm c.args.arm.now) (x.constraint, c.as_slice.result.now, block x.body) c.in_ok-pat.pat c.args.inside.items c.args.out.now.items c.push.new.self.items
    seen c.in_ok-pat.ensures (c.in_ok-push.ensures.items ∙ ap (λ ys. c.args.out.now.items ++ (c.in_ok-pat.pat, ys) ∷ []) c.new.ensures)
