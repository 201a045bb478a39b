-- Blocks whose forms are built: each operand, each test and each binding's expression that the statements want is there.
use Rattle.std.specs.Prelude.{ℕ, List, [], ◌∷◌, ◌++◌, Option, Some, IsSome}
use Rattle.isle_core.specs.declared.BindingId.{BindingId}
use Rattle.isle_core.specs.declared.rule_sets.Constraint.{Constraint}
use Rattle.isle_core.specs.ArmPlaces.{bound_within}
use Rattle.isle_core.specs.Bindable.{bound_by}
use Rattle.isle_core.specs.Block.{Block, Stop, Step, Control, Match, Equal, Loop, Return, Arms, NoArm, Arm}
use Rattle.isle_core.specs.BlockViews.{SeenArm}
use Rattle.isle_core.specs.Setting.{Setting}
use Rattle.isle_tree.specs.Program.{Done}
use Rattle.isle_simulation.specs.Completed.{step_binds}
use Rattle.isle_simulation.specs.Operands.{operand_of}
use Rattle.isle_simulation.specs.Patterns.{arm_pattern}
use Rattle.isle_simulation.specs.Statements.{bound_expr, arm_stmt, match_read, looped_local}

-- something stands for the binding
abbrev pub HasOperand : Setting → List ℕ → BindingId → Type 0
HasOperand s bound b = IsSome (operand_of s.env s.bindings bound b)

-- something is computed for it
abbrev pub IsComputed : Setting → List ℕ → BindingId → Type 0
IsComputed s bound b = IsSome (bound_expr s bound b)

-- so for each of these, those before being bound
abbrev pub AreComputed : Setting → List ℕ → List BindingId → Type 0
AreComputed s bound [] = Unit {0}
AreComputed s bound (b ∷ bs) = IsComputed s bound b × AreComputed s (bound ++ b.0 ∷ []) bs

-- there is a test of the binding against the constraint
abbrev pub IsTested : Setting → List ℕ → BindingId → Constraint → List (Option BindingId) → Type 0
IsTested s bound source c places = IsSome (arm_stmt s bound source c places (Some Done))

-- there is what a match of several arms reads, the first of this constraint
abbrev pub HasRead : Setting → List ℕ → BindingId → Constraint → Type 0
HasRead s bound source c = IsSome (match_read s bound source c)

-- there is the pattern of one of several arms
abbrev pub HasPattern : Setting → Constraint → List (Option BindingId) → Type 0
HasPattern s c places = IsSome (arm_pattern s.env c places)

-- a block of which all is built, if these are bound
abbrev mutual
  pub IsBuilt : Setting → List ℕ → Block → Type 0
  IsBuilt s bound Stop = Unit {0}
  IsBuilt s bound (Step binds c more) =
      AreComputed s bound (step_binds s bound binds c) × IsBuiltControl s (bound_by bound (step_binds s bound binds c)) c × IsBuilt s (bound_by bound (step_binds s bound binds c)) more

  -- so of what a step does
  pub IsBuiltControl : Setting → List ℕ → Control → Type 0
  IsBuiltControl s bound (Match source arms) = AreBuilt s bound source arms
  IsBuiltControl s bound (Equal a b body) = HasOperand s bound a × HasOperand s bound b × IsBuilt s bound body
  IsBuiltControl s bound (Loop result body) = IsSome (looped_local s result) × IsBuilt s (bound ++ result.0 ∷ []) body
  IsBuiltControl s bound (Return pos result) = HasOperand s bound result

  -- and of arms: one, or several
  pub AreBuilt : Setting → List ℕ → BindingId → Arms → Type 0
  AreBuilt s bound source NoArm = ⊥
  AreBuilt s bound source (Arm c places body NoArm) = IsTested s bound source c places × IsBuilt s (bound_within bound places) body
  AreBuilt s bound source (Arm c places body (Arm d others inside arms)) =
      HasRead s bound source c × HasPattern s c places × IsBuilt s (bound_within bound places) body × AreCasesBuilt s bound (Arm d others inside arms)

  -- each of several arms
  pub AreCasesBuilt : Setting → List ℕ → Arms → Type 0
  AreCasesBuilt s bound NoArm = Unit {0}
  AreCasesBuilt s bound (Arm c places body arms) = HasPattern s c places × IsBuilt s (bound_within bound places) body × AreCasesBuilt s bound arms

-- so of a step
abbrev pub IsBuiltStep : Setting → List ℕ → (binds : List BindingId) → Control → Type 0
IsBuiltStep s bound binds c = AreComputed s bound (step_binds s bound binds c) × IsBuiltControl s (bound_by bound (step_binds s bound binds c)) c

-- and of the one arm
abbrev pub IsBuiltArm : Setting → List ℕ → BindingId → SeenArm → Type 0
IsBuiltArm s bound source a = IsTested s bound source a.0 a.1 × IsBuilt s (bound_within bound a.1) a.2

-- and of one of several
abbrev pub IsBuiltCase : Setting → List ℕ → SeenArm → Type 0
IsBuiltCase s bound a = HasPattern s a.0 a.1 × IsBuilt s (bound_within bound a.1) a.2
