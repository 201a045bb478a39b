-- When the item of each Loop of a block is bound nowhere else: so what is bound holds no item but those of the Loops around it.
use Rattle.std.specs.Prelude.{◌≡◌, ℕ, List, [], ◌∷◌, ◌++◌, Some, Contains, slice_get}
use Rattle.isle_base.specs.declared.ids.BindingId.{BindingId}
use Rattle.isle_core.specs.declared.rule_sets.Binding.TheVariants as binding
use Rattle.isle_core.specs.ArmPlaces.{bound_within}
use Rattle.isle_core.specs.Bindable.{bound_by}
use Rattle.isle_core.specs.Block.{Block, Stop, Step, Control, Match, Equal, Loop, Return, Arms, NoArm, Arm}
use Rattle.isle_core.specs.Path.{Chosen, at}
use Rattle.isle_core.specs.Setting.{Setting, paths_in}

-- the binding is the item of a list that stands before it, and nothing that is bound is that item
pub record IsNewItem (s : Setting) (bound : List ℕ) (result : BindingId) : Type 0 where
  pub source : BindingId
  pub is : slice_get s.bindings result.0 ≡ Some (binding.Iterator source)
  pub path : at (paths_in s) result ≡ Chosen (at (paths_in s) source)
  pub new : (b : BindingId) → Contains bound b.0 → at (paths_in s) b ≡ at (paths_in s) result → ⊥

-- so of each Loop, if these are bound
abbrev mutual
  pub HasNewItemsFrom : Setting → (bound : List ℕ) → Block → Type 0
  HasNewItemsFrom s bound Stop = Unit {0}
  HasNewItemsFrom s bound (Step binds c more) = ControlNewItems s (bound_by bound binds) c × HasNewItemsFrom s (bound_by bound binds) more

  pub ControlNewItems : Setting → (bound : List ℕ) → Control → Type 0
  ControlNewItems s bound (Match source arms) = ArmsNewItems s bound arms
  ControlNewItems s bound (Equal a b body) = HasNewItemsFrom s bound body
  ControlNewItems s bound (Loop result body) = IsNewItem s bound result × HasNewItemsFrom s (bound ++ result.0 ∷ []) body
  ControlNewItems s bound (Return pos result) = Unit {0}

  pub ArmsNewItems : Setting → (bound : List ℕ) → Arms → Type 0
  ArmsNewItems s bound NoArm = Unit {0}
  ArmsNewItems s bound (Arm c places body arms) = HasNewItemsFrom s (bound_within bound places) body × ArmsNewItems s bound arms

-- if nothing is bound yet
abbrev pub HasNewItems : Setting → Block → Type 0
HasNewItems s b = HasNewItemsFrom s [] b
