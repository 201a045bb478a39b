-- What stands for the values of paths in a function.
use Rattle.std.specs.Prelude.{ℕ, List, Bool, ◌==◌, if◌then◌else◌, Option, Some, None, option_map}
use Rattle.std.specs.List.{list_any}
use Rattle.isle_core.specs.declared.BindingId.{BindingId}
use Rattle.isle_core.specs.declared.rule_sets.Constraint.{Constraint}
use Rattle.isle_core.specs.declared.rule_sets.Constraint.TheVariants as constraint
use Rattle.isle_core.specs.Value.{Value, Truth, Int, Opaque, Variant, Struct}
use Rattle.isle_core.specs.Constants.{int_value}
use Rattle.isle_core.specs.declared.rule_sets.Binding.{Binding}
use Rattle.isle_core.specs.Path.{Path, Nowhere, Arg, ConstBool, ConstInt, ConstPrim, Extracted, Called, Chosen, MadeVariant, MadeStruct, VariantField, StructField, Wrapped, Inner, Part, NoPath, APath, at, paths_of}
use Rattle.isle_core.specs.declared.TypeId.{TypeId}
use Rattle.isle_core.specs.Form.{Form, form}
use Rattle.isle_core.specs.Making.{MakesStruct}
use Rattle.isle_core.specs.Terms.{sym_text}
use Rattle.isle_core.specs.Rule.{Environment}
use Rattle.isle_tree.specs.declared.tree.Operand.{Operand}
use Rattle.isle_tree.specs.declared.tree.Operand.TheVariants as operand

-- the operand that spells a value; of a variant or struct none is built
abbrev pub constant : Value → Option Operand
constant (Truth b) = Some (operand.Bool b)
constant (Int ty n) = Some (operand.Int ty n)
constant (Opaque ty n) = Some (operand.Raw n)
constant (Variant ty name fields) = None
constant (Struct ty fields) = None

-- the name of a struct
abbrev pub struct_name : Environment → TypeId → Option Operand
struct_name env ty = option_map (λ (f : Form). operand.Name (sym_text env f.ty)) (form env (MakesStruct ty))

-- the operand of a path that is read in place: an argument, a constant, or a struct without fields; other made values have a
-- local of their own, and the others are read only where they are bound
abbrev pub in_place : Environment → (local : ℕ) → Path → Option Operand
in_place env local (Arg i) = Some (operand.Arg i)
in_place env local (ConstBool ty b) = Some (operand.Bool b)
in_place env local (ConstInt ty n) = constant (int_value env ty n)
in_place env local (ConstPrim name) = Some (operand.Name (sym_text env name))
in_place env local (MadeStruct ty NoPath) = struct_name env ty
in_place env local (MadeStruct ty (APath p ps)) = Some (operand.Local local)
in_place env local (MadeVariant ty variant ps) = Some (operand.Local local)
in_place env local Nowhere = None
in_place env local (Extracted term p) = None
in_place env local (Called term ps instance) = None
in_place env local (Chosen p) = None
in_place env local (VariantField variant field p) = None
in_place env local (StructField field p) = None
in_place env local (Wrapped p) = None
in_place env local (Inner p) = None
in_place env local (Part part p) = None

-- the operand that a constraint tests for; the others are no tests of a value
abbrev pub tested : Environment → Constraint → Option Operand
tested env (constraint.ConstBool val) = Some (operand.Bool val)
tested env (constraint.ConstInt val ty) = constant (int_value env ty val)
tested env (constraint.ConstPrim val) = Some (operand.Name (sym_text env val))
tested env (constraint.Variant ty variant) = None
tested env (constraint.Struct ty) = None
tested env constraint.Some = None

-- the local is bound
abbrev pub is_bound : List ℕ → BindingId → Bool
is_bound bound b = list_any (λ (n : ℕ). n == b.0) bound

-- the operand of a binding: its local if it is bound or made, or else what is read in place
abbrev pub operand_of : Environment → List Binding → List ℕ → BindingId → Option Operand
operand_of env bs bound b = if is_bound bound b then Some (operand.Local b.0) else in_place env b.0 (at (paths_of bs) b)
