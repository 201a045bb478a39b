-- What a definition is judged in.
use Rattle.std.specs.Prelude.{List}
use Rattle.isle_ast.specs.Tree.{Def}
use Rattle.isle_terms.specs.Whole.{Whole}

-- all definitions, and those before the one that is judged
pub record Context : Type 0 where
  pub whole : Whole
  pub before : List Def
