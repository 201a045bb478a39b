-- Structs that are made, and the reads that are put into fields.
use Rattle.std.specs.Prelude.{◌≡◌, ℕ, List, [], ◌∷◌, ◌++◌, false, Option, Some, None, option_map, slice_get}
use Rattle.isle_core.specs.declared.BindingId.{BindingId}
use Rattle.isle_core.specs.declared.TypeId.{TypeId}
use Rattle.isle_core.specs.Setting.{Setting}
use Rattle.isle_tree.specs.declared.tree.Operand.TheVariants as operand
use Rattle.isle_tree.specs.declared.tree.Read.{Read}
use Rattle.isle_tree.specs.declared.tree.Read.TheVariants as read
use Rattle.isle_tree.specs.declared.tree.TExpr.{TExpr}
use Rattle.isle_tree.specs.declared.tree.TExpr.TheVariants as expr
use Rattle.isle_simulation.specs.Statements.{read_in}

-- a struct of this name with these fields; one without fields is a name
abbrev pub struct_of : List ℕ → List (List ℕ × Read) → TExpr
struct_of ty [] = expr.Read (read.Plain (operand.Name ty))
struct_of ty (f ∷ fields) = expr.Struct ty (f ∷ fields)

-- reads before others
abbrev pub reads_onto : List (List ℕ × Read) → Option (List (List ℕ × Read)) → Option (List (List ℕ × Read))
reads_onto reads None = None
reads_onto reads (Some others) = Some (reads ++ others)

-- the read of a part as it is put into the field of this number, under the field's name
pub record IsReadAt (s : Setting) (bound : List ℕ) (fields : List (List ℕ × TypeId)) (i : ℕ) (part : BindingId) (r : List ℕ × Read) : Type 0 where
  pub name : Some r.0 ≡ option_map (λ (f : List ℕ × TypeId). f.0) (slice_get fields i)
  pub read : Some r.1 ≡ read_in s bound false part
