-- How the value of a binding is read.
use Rattle.std.specs.Prelude.{◌≡◌, ℕ, List, Bool, true, false}
use Rattle.isle_core.specs.declared.BindingId.{BindingId}
use Rattle.isle_core.specs.declared.rule_sets.Constraint.{Constraint}
use Rattle.isle_core.specs.declared.rule_sets.Constraint.TheVariants as constraint
use Rattle.isle_core.specs.Setting.{Setting}
use Rattle.isle_tree.specs.declared.tree.Operand.{Operand}
use Rattle.isle_tree.specs.declared.tree.Read.{Read}
use Rattle.isle_tree.specs.declared.tree.Read.TheVariants as read
use Rattle.isle_simulation.specs.OperandOf.{IsOperandOf}
use Rattle.isle_simulation.specs.References.{is_reference_in}

-- how an operand is read where a reference is wanted or not: as it is if it is what is wanted, a value by a reference to it, and a
-- reference by a clone of what it refers to
pub data IsReadAs : (wanted is : Bool) → Operand → Read → Type 0 where
  as_it_is : (x : Bool) (o : Operand) → IsReadAs x x o (read.Plain o)
  borrowed : (o : Operand) → IsReadAs true false o (read.Borrow o)
  cloned : (o : Operand) → IsReadAs false true o (read.Clone o)

-- what is read is the operand of the binding, as it is read where a reference is wanted or not
pub record IsReadOf (s : Setting) (bound : List ℕ) (wanted : Bool) (b : BindingId) (r : Read) : Type 0 where
  pub operand : Operand
  pub stands : IsOperandOf s bound b operand
  pub how : IsReadAs wanted (is_reference_in s b) operand r

-- what is read is the operand of the binding, as it is
pub record IsPlainOf (s : Setting) (bound : List ℕ) (b : BindingId) (r : Read) : Type 0 where
  pub operand : Operand
  pub stands : IsOperandOf s bound b operand
  pub is : r ≡ read.Plain operand

-- what is read is what a test for the constraint reads: a reference if a variant or a struct is taken apart, and else the operand as it is
abbrev pub IsReadBy : Setting → List ℕ → BindingId → Constraint → Read → Type 0
IsReadBy s bound b (constraint.Variant ty variant) r = IsReadOf s bound true b r
IsReadBy s bound b (constraint.Struct ty) r = IsReadOf s bound true b r
IsReadBy s bound b (constraint.ConstBool val) r = IsPlainOf s bound b r
IsReadBy s bound b (constraint.ConstInt val ty) r = IsPlainOf s bound b r
IsReadBy s bound b (constraint.ConstPrim val) r = IsPlainOf s bound b r
IsReadBy s bound b constraint.Some r = IsPlainOf s bound b r
