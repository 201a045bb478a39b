-- What is read in place for structs.
use Rattle.std.proofs.Common.{◌≡◌, ℕ, List, [], ◌∷◌, length, eqb, false, Some, ap}
use Rattle.isle_core.specs.declared.BindingId.{BindingId}
use Rattle.isle_core.specs.declared.TypeId.{TypeId}
use Rattle.isle_core.specs.Path.{Path, MadeStruct, at_all}
use Rattle.isle_core.specs.Rule.{Environment}
use Rattle.isle_tree.specs.declared.tree.Operand.TheVariants as operand
use Rattle.isle_simulation.specs.Operands.{in_place}

-- a struct with fields has a local of its own
pub struct_local : (env : Environment) (n m : ℕ) (ty : TypeId) (fs : List BindingId) (ps : List Path) → eqb (length fs) 0 ≡ false → m ≡ n → Some (operand.Local m) ≡ in_place env n (MadeStruct ty (at_all ps fs))
struct_local env n m ty [] ps e same = absurd cc
struct_local env n m ty (f ∷ fs) ps e same = ap (λ k. Some (operand.Local k)) same
