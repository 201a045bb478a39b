-- Which operand stands for the value of a binding in a function.
use Rattle.std.specs.Prelude.{◌≡◌, ℕ, ℤ, List, Bool, true, false, Some}
use Rattle.isle_core.specs.declared.BindingId.{BindingId}
use Rattle.isle_core.specs.declared.Sym.{Sym}
use Rattle.isle_core.specs.declared.TypeId.{TypeId}
use Rattle.isle_base.specs.declared.ids.VariantId.{VariantId}
use Rattle.isle_core.specs.declared.types.IntType.{IntType}
use Rattle.isle_core.specs.Constants.{int_value}
use Rattle.isle_core.specs.Form.{Form, form}
use Rattle.isle_core.specs.Making.{MakesStruct}
use Rattle.isle_core.specs.Path as path
use Rattle.isle_core.specs.Path.{Path, Paths, NoPath, APath, at}
use Rattle.isle_core.specs.Rule.{Environment}
use Rattle.isle_core.specs.Setting.{Setting, paths_in}
use Rattle.isle_core.specs.Terms.{sym_text}
use Rattle.isle_core.specs.Value.{Value, Truth, Int, Opaque}
use Rattle.isle_tree.specs.declared.tree.Operand.{Operand}
use Rattle.isle_tree.specs.declared.tree.Operand.TheVariants as operand
use Rattle.isle_simulation.specs.Operands.{is_bound}

-- the operand spells the value: a truth, an integer of its type, or an integer of a type that isn't known here
pub data IsConstant : Value → Operand → Type 0 where
  truth : (b : Bool) → IsConstant (Truth b) (operand.Bool b)
  integer : (ty : IntType) (n : ℤ) → IsConstant (Int ty n) (operand.Int ty n)
  opaque : (ty : List ℕ) (n : ℤ) → IsConstant (Opaque ty n) (operand.Raw n)

-- the operand stands for a path that no local was bound for: an argument, a constant, a struct without fields by its name, or the local that
-- a made value is to have
pub data IsInPlace (env : Environment) (local : ℕ) : Path → Operand → Type 0 where
  argument : (i : ℕ) → IsInPlace env local (path.Arg i) (operand.Arg i)
  truth : (ty : TypeId) (b : Bool) → IsInPlace env local (path.ConstBool ty b) (operand.Bool b)
  integer : (ty : TypeId) (n : ℤ) (o : Operand) → IsConstant (int_value env ty n) o → IsInPlace env local (path.ConstInt ty n) o
  named : (name : Sym) → IsInPlace env local (path.ConstPrim name) (operand.Name (sym_text env name))
  bare_struct : (ty : TypeId) (f : Form) → form env (MakesStruct ty) ≡ Some f → IsInPlace env local (path.MadeStruct ty NoPath) (operand.Name (sym_text env f.ty))
  made_struct : (ty : TypeId) (p : Path) (ps : Paths) → IsInPlace env local (path.MadeStruct ty (APath p ps)) (operand.Local local)
  made_variant : (ty : TypeId) (variant : VariantId) (ps : Paths) → IsInPlace env local (path.MadeVariant ty variant ps) (operand.Local local)

-- the operand stands for the binding: its local if that is bound, and else what stands for its path
pub data IsOperandOf (s : Setting) (bound : List ℕ) (b : BindingId) : Operand → Type 0 where
  own_local : is_bound bound b ≡ true → IsOperandOf s bound b (operand.Local b.0)
  in_its_place : (o : Operand) → is_bound bound b ≡ false → IsInPlace s.env b.0 (at (paths_in s) b) o → IsOperandOf s bound b o
