-- Which locals a step binds, in order.
use Rattle.std.specs.Prelude.{◌≡◌, ℕ, ◌<◌, List, [], ◌∷◌, ◌++◌, true, false, Some, None, slice_get}
use Rattle.std.specs.List.{AllByRecursion}
use Rattle.isle_core.specs.declared.BindingId.{BindingId}
use Rattle.isle_core.specs.Bindable.{bound_by}
use Rattle.isle_core.specs.Block.{Control}
use Rattle.isle_core.specs.Setting.{Setting}
use Rattle.isle_simulation.specs.Completed.{local_parts, read_for, read_by}
use Rattle.isle_simulation.specs.Operands.{is_bound}

mutual
  -- these are bound so that the binding can be read: none if it is bound or no made value, and else what its parts need, which stand before
  -- it, and then it itself
  pub data IsNeeded (s : Setting) : (bound : List ℕ) → BindingId → List BindingId → Type 0 where
    is_there : (bound : List ℕ) (b : BindingId) → is_bound bound b ≡ true → IsNeeded s bound b []
    in_place : (bound : List ℕ) (b : BindingId) → is_bound bound b ≡ false → local_parts (slice_get s.bindings b.0) ≡ None → IsNeeded s bound b []
    of_parts : (bound : List ℕ) (b : BindingId) (parts needed : List BindingId) → is_bound bound b ≡ false → local_parts (slice_get s.bindings b.0) ≡ Some parts
        → AllByRecursion (λ (p : BindingId). p.0 < b.0) parts → AreNeeded s bound parts needed → IsNeeded s bound b (needed ++ b ∷ [])

  -- these are bound so that all of the bindings can be read, in order
  pub data AreNeeded (s : Setting) : (bound : List ℕ) → List BindingId → List BindingId → Type 0 where
    none_needed : (bound : List ℕ) → AreNeeded s bound [] []
    one_needed : (bound : List ℕ) (b : BindingId) (bs needed others : List BindingId)
        → IsNeeded s bound b needed → AreNeeded s (bound_by bound needed) bs others → AreNeeded s bound (b ∷ bs) (needed ++ others)

-- these are bound for a bind order: each of its bindings after what it is computed from needs
pub data AreBoundFor (s : Setting) : (bound : List ℕ) → List BindingId → List BindingId → Type 0 where
  none_bound : (bound : List ℕ) → AreBoundFor s bound [] []
  one_bound : (bound : List ℕ) (b : BindingId) (bs needed others : List BindingId)
      → AreNeeded s bound (read_for (slice_get s.bindings b.0)) needed → AreBoundFor s (bound_by bound (needed ++ b ∷ [])) bs others
      → AreBoundFor s bound (b ∷ bs) ((needed ++ b ∷ []) ++ others)

-- these are bound in a step of this bind order that does this: those of its order, and then what it reads needs
pub record AreBoundIn (s : Setting) (bound : List ℕ) (binds : List BindingId) (c : Control) (all : List BindingId) : Type 0 where
  pub first : List BindingId
  pub last : List BindingId
  pub ordered : AreBoundFor s bound binds first
  pub read : AreNeeded s (bound_by bound first) (read_by c) last
  pub are : all ≡ first ++ last
