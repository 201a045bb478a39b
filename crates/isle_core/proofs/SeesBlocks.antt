-- What a contract sees of each part of a block.
use Rattle.std.proofs.Common.{◌≡◌, List, map, sym, ap, ◌∙◌}
use Rattle.isle_base.specs.declared.ids.BindingId.{BindingId}
use Rattle.isle_core.specs.declared.position.Pos.{Pos}
use Rattle.isle_core.specs.declared.blocks.Block.{Block as CodeBlock}
use Rattle.isle_core.specs.declared.blocks.EvalStep.{EvalStep as CodeStep}
use Rattle.isle_core.specs.declared.blocks.MatchArm.{MatchArm as CodeArm}
use Rattle.isle_core.specs.declared.blocks.ControlFlow.TheVariants as code
use Rattle.isle_core.specs.declared.blocks.ControlFlow.TheViews.{out-Block, out-EvalStep, out-MatchArm}
use Rattle.isle_core.specs.declared.blocks.ControlFlow.TheFolds.{fold-roll-ControlFlow, fold_out-Block, fold_out-EvalStep, fold_out-MatchArm}
use Rattle.isle_core.specs.Block.{Block, Control, Match, Equal, Loop, Return}
use Rattle.isle_core.specs.BlockViews.{SeenStep, SeenArm, block_of, arms_of, control_step, block_step, step_step, arm_step, control, block, step, arm}

pub control-match : (source : BindingId) (arms : List CodeArm) → control (code.Match source arms) ≡ Match source (arms_of (map arm arms))
control-match source arms = ap control (sym (code.rolls-Match source arms)) ∙ fold-roll-ControlFlow Control Block SeenStep SeenArm control_step block_step step_step arm_step _

pub control-equal : (a b : BindingId) (body : CodeBlock) → control (code.Equal a b body) ≡ Equal a b (block body)
control-equal a b body = ap control (sym (code.rolls-Equal a b body)) ∙ fold-roll-ControlFlow Control Block SeenStep SeenArm control_step block_step step_step arm_step _

pub control-loop : (result : BindingId) (body : CodeBlock) → control (code.Loop result body) ≡ Loop result (block body)
control-loop result body = ap control (sym (code.rolls-Loop result body)) ∙ fold-roll-ControlFlow Control Block SeenStep SeenArm control_step block_step step_step arm_step _

pub control-return : (pos : Pos) (result : BindingId) → control (code.Return pos result) ≡ Return pos result
control-return pos result = ap control (sym (code.rolls-Return pos result)) ∙ fold-roll-ControlFlow Control Block SeenStep SeenArm control_step block_step step_step arm_step _

pub block-steps : (b : CodeBlock) → block b ≡ block_of (map step (out-Block b).steps)
block-steps b = fold_out-Block Control Block SeenStep SeenArm control_step block_step step_step arm_step b

pub step-parts : (s : CodeStep) → step s ≡ ((out-EvalStep s).bind_order, control (out-EvalStep s).check)
step-parts s = fold_out-EvalStep Control Block SeenStep SeenArm control_step block_step step_step arm_step s

pub arm-parts : (a : CodeArm) → arm a ≡ ((out-MatchArm a).constraint, (out-MatchArm a).bindings, block (out-MatchArm a).body)
arm-parts a = fold_out-MatchArm Control Block SeenStep SeenArm control_step block_step step_step arm_step a

pub ruleset sees_blocks = (control-match, control-equal, control-loop, control-return, block-steps, step-parts, arm-parts)
