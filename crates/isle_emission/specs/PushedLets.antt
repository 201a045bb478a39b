-- Lets that were put after statements.
use Rattle.std.specs.Prelude.{◌≡◌, ◌++◌, ℕ, List}
use Rattle.isle_core.specs.declared.BindingId.{BindingId}
use Rattle.isle_core.specs.Bindable.{bound_by}
use Rattle.isle_core.specs.Setting.{Setting}
use Rattle.isle_tree.specs.declared.tree.Stmt.{Stmt as CodeStmt}
use Rattle.isle_emission.specs.BodyOnto.{ArePushedAs}
use Rattle.isle_simulation.specs.Statements as Statements

-- the lets of these bindings stand after the statements before, and the bindings' locals are bound
pub record PushesLets (s : Setting) (binds : List BindingId) (old new : List ℕ) (before after : List CodeStmt) : Type 0 where
  pub lets : ArePushedAs before after (Statements.lets s old binds)
  pub bound : new ≡ bound_by old binds
  pub grows : (more : List ℕ) × (new ≡ old ++ more)
