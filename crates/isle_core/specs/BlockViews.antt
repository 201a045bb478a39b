-- What contracts see of the code's blocks.
use Rattle.std.specs.Prelude.{List, [], ◌∷◌, Option}
use Rattle.isle_base.specs.declared.ids.BindingId.{BindingId}
use Rattle.isle_core.specs.declared.blocks.Block.{Block as CodeBlock}
use Rattle.isle_core.specs.declared.blocks.EvalStep.{EvalStep as CodeStep}
use Rattle.isle_core.specs.declared.blocks.MatchArm.{MatchArm as CodeArm}
use Rattle.isle_core.specs.declared.blocks.ControlFlow.{ControlFlow as CodeControl}
use Rattle.isle_core.specs.declared.blocks.ControlFlow.TheOpen.{ControlFlow-F, Block-F, EvalStep-F, MatchArm-F}
use Rattle.isle_core.specs.declared.blocks.ControlFlow.TheOpen as code
use Rattle.isle_core.specs.declared.blocks.ControlFlow.TheFolds.{fold-ControlFlow, fold-Block, fold-EvalStep, fold-MatchArm}
use Rattle.isle_core.specs.declared.rule_sets.Constraint.{Constraint}
use Rattle.isle_core.specs.Block.{Block, Stop, Step, Control, Match, Equal, Loop, Return, Arms, NoArm, Arm}

-- a step, and an arm, as their parts
abbrev pub SeenStep : Type 0
SeenStep = List BindingId × Control

abbrev pub SeenArm : Type 0
SeenArm = Constraint × List (Option BindingId) × Block

-- the steps of a list
abbrev pub block_of : List SeenStep → Block
block_of [] = Stop
block_of (s ∷ more) = Step s.0 s.1 (block_of more)

-- the arms of a list
abbrev pub arms_of : List SeenArm → Arms
arms_of [] = NoArm
arms_of (a ∷ more) = Arm a.0 a.1 a.2 (arms_of more)

-- one layer, if what is inside it is seen already
abbrev pub control_step : ControlFlow-F Control Block SeenStep SeenArm → Control
control_step (code.Match source arms) = Match source (arms_of arms)
control_step (code.Equal a b body) = Equal a b body
control_step (code.Loop result body) = Loop result body
control_step (code.Return pos result) = Return pos result

abbrev pub block_step : Block-F Control Block SeenStep SeenArm → Block
block_step b = block_of b.steps

abbrev pub step_step : EvalStep-F Control Block SeenStep SeenArm → SeenStep
step_step s = (s.bind_order, s.check)

abbrev pub arm_step : MatchArm-F Control Block SeenStep SeenArm → SeenArm
arm_step a = (a.constraint, a.bindings, a.body)

-- what a step does
abbrev pub control : CodeControl → Control
control = fold-ControlFlow Control Block SeenStep SeenArm control_step block_step step_step arm_step

-- a block
abbrev pub block : CodeBlock → Block
block = fold-Block Control Block SeenStep SeenArm control_step block_step step_step arm_step

-- a step
abbrev pub step : CodeStep → SeenStep
step = fold-EvalStep Control Block SeenStep SeenArm control_step block_step step_step arm_step

-- an arm
abbrev pub arm : CodeArm → SeenArm
arm = fold-MatchArm Control Block SeenStep SeenArm control_step block_step step_step arm_step
