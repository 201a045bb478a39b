-- Bindings that are added to a block leave its weight as it is, and so what an arm of it stands in.
use Rattle.std.proofs.Common.{◌≡◌, ℕ, ◌+◌, ◌-◌, ◌^◌, List, [], ◌∷◌, ◌++◌, min, refl, ap, ◌∙◌, ◌||◌, Option, Some}
use Rattle.std.specs.Prelude.{option_map}
use Rattle.isle_core.specs.ArmPlaces.{bound_within}
use Rattle.isle_core.specs.Bindable.{bound_by}
use Rattle.isle_core.specs.Block.{Block, Stop, Step, Control, Match, Equal, Loop, Return, Arms, NoArm, Arm}
use Rattle.isle_core.specs.Setting.{Setting}
use Rattle.isle_simulation.specs.BlockWeight.{steps_in, steps_within, steps_of}
use Rattle.isle_simulation.specs.Completed.{completed, completed_control, completed_arms, step_binds}
use Rattle.isle_simulation.specs.Manner.{Manner, is_above, has_closure, closed_if, arm_manner, arm_body}
use Rattle.isle_simulation.specs.Statements.{told_body}
use Rattle.isle_tree.specs.Program.{Body, Done}

mutual
  steps_same : (b : Block) (s : Setting) (bound : List ℕ) → steps_in (completed s bound b) ≡ steps_in b
  steps_same Stop s bound = refl
  steps_same (Step binds c more) s bound =
      let inner = bound_by bound (step_binds s bound binds c) in
      ap (λ n. 1 + n + steps_in (completed s inner more)) (within_same c s inner) ∙ ap (λ n. 1 + steps_within c + n) (steps_same more s inner)

  within_same : (c : Control) (s : Setting) (bound : List ℕ) → steps_within (completed_control s bound c) ≡ steps_within c
  within_same (Match source arms) s bound = of_same arms s bound
  within_same (Equal a b body) s bound = steps_same body s bound
  within_same (Loop result body) s bound = steps_same body s (bound ++ result.0 ∷ [])
  within_same (Return pos result) s bound = refl

  of_same : (arms : Arms) (s : Setting) (bound : List ℕ) → steps_of (completed_arms s bound arms) ≡ steps_of arms
  of_same NoArm s bound = refl
  of_same (Arm c places body arms) s bound = ap (λ n. n + steps_of (completed_arms s bound arms)) (steps_same body s (bound_within bound places)) ∙ ap (λ n. steps_in body + n) (of_same arms s bound)

-- so the body of an arm has a closure exactly if the completed one has
pub same_closure : (manner : Manner) (s : Setting) (bound : List ℕ) (b : Block) → has_closure manner (completed s bound b) ≡ has_closure manner b
same_closure manner s bound b = ap (λ n. is_above manner.above (min n (2 ^ 64 - 1))) (steps_same b s bound)

-- what is made of the body of an arm
abbrev pub arm_of : Manner → Setting → List ℕ → Block → Option Body
arm_of manner s bound b = arm_body manner (completed s bound b) (told_body (arm_manner manner (completed s bound b)) s bound (completed s bound b) (Some Done))

-- is told by the block as it is
pub arm_by : (manner : Manner) (s : Setting) (bound : List ℕ) (b : Block) → arm_of manner s bound b ≡ arm_body manner b (told_body (arm_manner manner b) s bound (completed s bound b) (Some Done))
arm_by manner s bound b = ap (λ x. option_map (closed_if x manner.inside) (told_body (record manner { inside = manner.inside || x }) s bound (completed s bound b) (Some Done))) (same_closure manner s bound b)
