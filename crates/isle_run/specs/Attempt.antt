-- A run that is tried.
use Rattle.std.specs.Prelude.{ℕ, List}
use Rattle.isle_core.specs.Rule.{Environment}
use Rattle.isle_core.specs.Value.{Value}
use Rattle.isle_tree.specs.Program.{Program}

-- that of a term's function at arguments, of a program, and the environment of its source
pub record Attempt : Type 0 where
  pub program : Program
  pub env : Environment
  pub term : List ℕ
  pub args : List Value
