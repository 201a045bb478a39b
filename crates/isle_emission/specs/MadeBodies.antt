-- The statements of blocks that are completed.
use Rattle.std.specs.Prelude.{◌≡◌, ◌++◌, [], ◌∷◌, ℕ, List, Option, Some, map}
use Rattle.isle_core.specs.declared.BindingId.{BindingId}
use Rattle.isle_core.specs.declared.blocks.EvalStep.{EvalStep as CodeStep}
use Rattle.isle_core.specs.declared.blocks.MatchArm.{MatchArm as CodeArm}
use Rattle.isle_core.specs.Bindable.{bound_by}
use Rattle.isle_core.specs.Block.{Block, Control, Arms}
use Rattle.isle_core.specs.BlockViews.{step}
use Rattle.isle_core.specs.Setting.{Setting}
use Rattle.isle_tree.specs.declared.tree.Stmt.{Stmt as CodeStmt}
use Rattle.isle_tree.specs.Program as tree
use Rattle.isle_tree.specs.Program.{Stmt, Body, Done}
use Rattle.isle_tree.specs.Views.{stmt}
use Rattle.isle_emission.specs.BodyOnto.{body_onto}
use Rattle.isle_emission.specs.declared.emitter.Emitter.{Emitter}
use Rattle.isle_emission.specs.Emitter.{setting_in, manner_in}
use Rattle.isle_emission.specs.Views.{steps_block, match_arms}
use Rattle.isle_simulation.specs.Completed.{step_binds, completed, completed_control, completed_arms}
use Rattle.isle_simulation.specs.Statements.{told_body, told_control, told_arms, told_each}
use Rattle.isle_simulation.specs.Manner.{Manner, arm_manner, arm_body}

-- those of a block, and what follows
abbrev pub made_body : Manner → Setting → List ℕ → Block → Option Body → Option Body
made_body manner s bound b end = told_body manner s bound (completed s bound b) end

-- those in an arm of a block
abbrev pub made_in_arm : Manner → Setting → List ℕ → Block → Option Body
made_in_arm manner s bound b = arm_body manner b (made_body (arm_manner manner b) s bound b (Some Done))

-- that of what a step does
abbrev pub made_control : Manner → Setting → List ℕ → Control → Option Stmt
made_control manner s bound c = told_control manner s bound (completed_control s bound c)

-- that of the arms of a match
abbrev pub made_arms : Manner → Setting → List ℕ → BindingId → Arms → Option Stmt
made_arms manner s bound source arms = told_arms manner s bound source (completed_arms s bound arms)

-- those of several, each by itself
abbrev pub made_each : Manner → Setting → List ℕ → Arms → Option tree.Arms
made_each manner s bound arms = told_each manner s bound (completed_arms s bound arms)

-- so of what an emitter makes
abbrev pub body_for : Emitter → List ℕ → Block → Option Body → Option Body
body_for e bound b end = made_body (manner_in e) (setting_in e) bound b end

-- those in an arm of a block, in a closure of their own or not
abbrev pub arm_body_for : Emitter → List ℕ → Block → Option Body
arm_body_for e bound b = made_in_arm (manner_in e) (setting_in e) bound b

-- and of what steps, matches and arms are
abbrev pub control_for : Emitter → List ℕ → Control → Option Stmt
control_for e bound c = made_control (manner_in e) (setting_in e) bound c

abbrev pub arms_for : Emitter → List ℕ → BindingId → Arms → Option Stmt
arms_for e bound source arms = made_arms (manner_in e) (setting_in e) bound source arms

abbrev pub arm_for : Emitter → List ℕ → BindingId → CodeArm → Option Stmt
arm_for e bound source x = arms_for e bound source (match_arms (x ∷ []))

-- what a step binds
abbrev pub binds_of : Setting → List ℕ → CodeStep → List BindingId
binds_of s bound x = step_binds s bound (step x).0 (step x).1

-- the statements of a step stand after the statements before, and its bindings' locals are bound
pub record PushesStep (manner : Manner) (s : Setting) (x : CodeStep) (old new : List ℕ) (before after : List CodeStmt) : Type 0 where
  pub stmts : (xs : List CodeStep) (end : Option Body) → body_onto (map stmt after) (made_body manner s new (steps_block xs) end) ≡ body_onto (map stmt before) (made_body manner s old (steps_block (x ∷ xs)) end)
  pub bound : new ≡ bound_by old (binds_of s old x)
  pub grows : (more : List ℕ) × (new ≡ old ++ more)
