-- A block in which each made value that is read has a local.
use Rattle.std.specs.Prelude.{ℕ, zero, suc, List, [], ◌∷◌, ◌++◌, length, Option, Some, None, if◌then◌else◌, slice_get}
use Rattle.isle_core.specs.declared.BindingId.{BindingId}
use Rattle.isle_core.specs.declared.rule_sets.Binding.{Binding}
use Rattle.isle_core.specs.declared.rule_sets.Binding.TheVariants as binding
use Rattle.isle_core.specs.ArmPlaces.{bound_within}
use Rattle.isle_core.specs.BindingParts.{over, made_parts}
use Rattle.isle_core.specs.Bindable.{bound_by}
use Rattle.isle_core.specs.Block.{Block, Stop, Step, Control, Match, Equal, Loop, Return, Arms, NoArm, Arm}
use Rattle.isle_core.specs.Setting.{Setting}
use Rattle.isle_simulation.specs.Operands.{is_bound}

-- ---- what needs a local

-- the parts of a made value that needs a local: a struct without fields is a name
abbrev pub local_parts : Option Binding → Option (List BindingId)
local_parts None = None
local_parts (Some b) = made_parts b

-- what is needed for each of some bindings in order, those before being bound
abbrev pub each_needed : (List ℕ → BindingId → List BindingId) → List ℕ → List BindingId → List BindingId
each_needed one bound [] = []
each_needed one bound (b ∷ bs) = one bound b ++ each_needed one (bound_by bound (one bound b)) bs

-- the needed parts of a made value, and then it itself
abbrev pub with_parts : (List ℕ → BindingId → List BindingId) → List ℕ → BindingId → Option (List BindingId) → List BindingId
with_parts one bound b None = []
with_parts one bound b (Some parts) = each_needed one bound parts ++ b ∷ []

-- the made values without a local that a binding is read with, parts first, to this depth
abbrev pub needed : Setting → ℕ → List ℕ → BindingId → List BindingId
needed s zero bound b = []
needed s (suc depth) bound b = if is_bound bound b then [] else with_parts (needed s depth) bound b (local_parts (slice_get s.bindings b.0))

-- those of bindings in order; parts stand before what they are parts of, so no more than all bindings are nested
abbrev pub needs : Setting → List ℕ → List BindingId → List BindingId
needs s bound bs = each_needed (needed s (length s.bindings)) bound bs

-- ---- what is read

-- what a binding is computed from
abbrev pub read_for : Option Binding → List BindingId
read_for None = []
read_for (Some (binding.Iterator source)) = []
read_for (Some (binding.MatchVariant source variant field)) = []
read_for (Some (binding.ExtractStruct source field)) = []
read_for (Some (binding.MakeSome inner)) = []
read_for (Some b) = over b

-- what a step reads after its bindings
abbrev pub read_by : Control → List BindingId
read_by (Match source arms) = source ∷ []
read_by (Equal a b body) = a ∷ b ∷ []
read_by (Loop result body) = []
read_by (Return pos result) = result ∷ []

-- ---- blocks

-- a binding after what it needs
abbrev pub with_needs : Setting → List ℕ → BindingId → List BindingId
with_needs s bound b = needs s bound (read_for (slice_get s.bindings b.0)) ++ b ∷ []

-- so of each of a bind order
abbrev pub completed_binds : Setting → List ℕ → List BindingId → List BindingId
completed_binds s bound [] = []
completed_binds s bound (b ∷ bs) = with_needs s bound b ++ completed_binds s (bound_by bound (with_needs s bound b)) bs

-- and then of what the step reads
abbrev pub step_binds : Setting → List ℕ → List BindingId → Control → List BindingId
step_binds s bound binds c = completed_binds s bound binds ++ needs s (bound_by bound (completed_binds s bound binds)) (read_by c)

-- a block with these bind orders
abbrev mutual
  pub completed : Setting → List ℕ → Block → Block
  completed s bound Stop = Stop
  completed s bound (Step binds c more) =
      Step (step_binds s bound binds c) (completed_control s (bound_by bound (step_binds s bound binds c)) c) (completed s (bound_by bound (step_binds s bound binds c)) more)

  pub completed_control : Setting → List ℕ → Control → Control
  completed_control s bound (Match source arms) = Match source (completed_arms s bound arms)
  completed_control s bound (Equal a b body) = Equal a b (completed s bound body)
  completed_control s bound (Loop result body) = Loop result (completed s (bound ++ result.0 ∷ []) body)
  completed_control s bound (Return pos result) = Return pos result

  pub completed_arms : Setting → List ℕ → Arms → Arms
  completed_arms s bound NoArm = NoArm
  completed_arms s bound (Arm c places body arms) = Arm c places (completed s (bound_within bound places) body) (completed_arms s bound arms)
