-- Bindings that were put after a bind order.
use Rattle.std.specs.Prelude.{◌≡◌, ℕ, List, ◌++◌}
use Rattle.isle_core.specs.declared.BindingId.{BindingId}
use Rattle.isle_core.specs.Bindable.{bound_by}

-- these stand after those before, and are bound
pub record Pushes (binds : List BindingId) (old new : List ℕ) (before after : List BindingId) : Type 0 where
  pub order : after ≡ before ++ binds
  pub bound : new ≡ bound_by old binds

-- what was bound is bound first
pub record Grows (old new : List ℕ) : Type 0 where
  pub more : List ℕ
  pub all : new ≡ old ++ more
