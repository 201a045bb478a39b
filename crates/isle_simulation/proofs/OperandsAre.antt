-- What stands for a binding and how it is read: what the emitter finds is so, and what is so it finds.
use Rattle.std.proofs.Common.{◌≡◌, ℕ, List, Bool, true, false, cond, Option, Some, None, refl, sym, ap, ◌∙◌, subst}
use Rattle.std.specs.Prelude.{option_map}
use Rattle.isle_core.specs.declared.BindingId.{BindingId}
use Rattle.isle_core.specs.declared.rule_sets.Constraint.{Constraint}
use Rattle.isle_core.specs.declared.rule_sets.Constraint.TheVariants as constraint
use Rattle.isle_core.specs.Constants.{int_value}
use Rattle.isle_core.specs.Form.{Form, form}
use Rattle.isle_core.specs.Making.{MakesStruct}
use Rattle.isle_core.specs.Path as path
use Rattle.isle_core.specs.Path.{Path, NoPath, APath, at, paths_of}
use Rattle.isle_core.specs.Rule.{Environment}
use Rattle.isle_core.specs.Setting.{Setting}
use Rattle.isle_core.specs.Terms.{sym_text}
use Rattle.isle_core.specs.Value.{Value, Truth, Int, Opaque, Variant, Struct}
use Rattle.isle_core.proofs.OptionLaws.{some_same}
use Rattle.isle_tree.specs.declared.tree.Operand.{Operand}
use Rattle.isle_tree.specs.declared.tree.Operand.TheVariants as operand
use Rattle.isle_tree.specs.declared.tree.Read.{Read}
use Rattle.isle_simulation.specs.OperandOf.{IsConstant, IsInPlace, IsOperandOf, own_local, in_its_place}
use Rattle.isle_simulation.specs.OperandOf as stands
use Rattle.isle_simulation.specs.Operands.{constant, in_place, is_bound, operand_of}
use Rattle.isle_simulation.specs.ReadOf.{IsReadAs, as_it_is, borrowed, cloned, IsReadOf, IsPlainOf, IsReadBy}
use Rattle.isle_simulation.specs.References.{is_reference_in, read_as}
use Rattle.isle_simulation.specs.Statements.{read_in, plain_read, match_read}

-- nothing is something
pub none_some : {A : Type 0} (x : A) → None ≡ Some x → ⊥
none_some x e = absurd cc

-- ---- what is found is so

constant_is : (v : Value) (o : Operand) → constant v ≡ Some o → IsConstant v o
constant_is (Truth b) o e = subst (IsConstant (Truth b)) (some_same _ o e) (stands.truth b)
constant_is (Int ty n) o e = subst (IsConstant (Int ty n)) (some_same _ o e) (stands.integer ty n)
constant_is (Opaque ty n) o e = subst (IsConstant (Opaque ty n)) (some_same _ o e) (stands.opaque ty n)
constant_is (Variant ty name fields) o e = absurd (none_some o e)
constant_is (Struct ty fields) o e = absurd (none_some o e)

-- of a path without a local
pub place_is : (env : Environment) (local : ℕ) (p : Path) (o : Operand) → in_place env local p ≡ Some o → IsInPlace env local p o
place_is env local (path.Arg i) o e = subst (IsInPlace env local (path.Arg i)) (some_same _ o e) (stands.argument i)
place_is env local (path.ConstBool ty b) o e = subst (IsInPlace env local (path.ConstBool ty b)) (some_same _ o e) (stands.truth ty b)
place_is env local (path.ConstInt ty n) o e = stands.integer ty n o (constant_is (int_value env ty n) o e)
place_is env local (path.ConstPrim name) o e = subst (IsInPlace env local (path.ConstPrim name)) (some_same _ o e) (stands.named name)
place_is env local (path.MadeStruct ty NoPath) o e = bare (form env (MakesStruct ty)) refl e
  where
    bare : (f : Option Form) → form env (MakesStruct ty) ≡ f → option_map (λ (x : Form). operand.Name (sym_text env x.ty)) f ≡ Some o → IsInPlace env local (path.MadeStruct ty NoPath) o
    bare (Some f) is e = subst (IsInPlace env local (path.MadeStruct ty NoPath)) (some_same _ o e) (stands.bare_struct ty f is)
    bare None is e = absurd (none_some o e)
place_is env local (path.MadeStruct ty (APath p ps)) o e = subst (IsInPlace env local (path.MadeStruct ty (APath p ps))) (some_same _ o e) (stands.made_struct ty p ps)
place_is env local (path.MadeVariant ty variant ps) o e = subst (IsInPlace env local (path.MadeVariant ty variant ps)) (some_same _ o e) (stands.made_variant ty variant ps)
place_is env local path.Nowhere o e = absurd (none_some o e)
place_is env local (path.Extracted term p) o e = absurd (none_some o e)
place_is env local (path.Called term ps instance) o e = absurd (none_some o e)
place_is env local (path.Chosen p) o e = absurd (none_some o e)
place_is env local (path.VariantField variant field p) o e = absurd (none_some o e)
place_is env local (path.StructField field p) o e = absurd (none_some o e)
place_is env local (path.Wrapped p) o e = absurd (none_some o e)
place_is env local (path.Inner p) o e = absurd (none_some o e)
place_is env local (path.Part part p) o e = absurd (none_some o e)

-- of a binding
pub operand_is : (s : Setting) (bound : List ℕ) (b : BindingId) (o : Operand) → operand_of s.env s.bindings bound b ≡ Some o → IsOperandOf s bound b o
operand_is s bound b o e = one (is_bound bound b) refl e
  where
    one : (x : Bool) → is_bound bound b ≡ x → cond x (Some (operand.Local b.0)) (in_place s.env b.0 (at (paths_of s.bindings) b)) ≡ Some o → IsOperandOf s bound b o
    one true is e = subst (IsOperandOf s bound b) (some_same _ o e) (own_local is)
    one false is e = in_its_place o is (place_is s.env b.0 (at (paths_of s.bindings) b) o e)

as_is : (wanted is : Bool) (o : Operand) (r : Read) → read_as wanted is o ≡ r → IsReadAs wanted is o r
as_is true true o r e = subst (IsReadAs true true o) e (as_it_is true o)
as_is true false o r e = subst (IsReadAs true false o) e (borrowed o)
as_is false true o r e = subst (IsReadAs false true o) e (cloned o)
as_is false false o r e = subst (IsReadAs false false o) e (as_it_is false o)

-- of what is read
pub read_is : (s : Setting) (bound : List ℕ) (wanted : Bool) (b : BindingId) (r : Read) → read_in s bound wanted b ≡ Some r → IsReadOf s bound wanted b r
read_is s bound wanted b r e = one (operand_of s.env s.bindings bound b) refl e
  where
    one : (x : Option Operand) → operand_of s.env s.bindings bound b ≡ x → option_map (read_as wanted (is_reference_in s b)) x ≡ Some r → IsReadOf s bound wanted b r
    one (Some o) is e = record { operand = o; stands = operand_is s bound b o is; how = as_is wanted (is_reference_in s b) o r (some_same _ r e) }
    one None is e = absurd (none_some r e)

-- of what is read as it is
pub plain_is : (s : Setting) (bound : List ℕ) (b : BindingId) (r : Read) → plain_read (operand_of s.env s.bindings bound b) ≡ Some r → IsPlainOf s bound b r
plain_is s bound b r e = one (operand_of s.env s.bindings bound b) refl e
  where
    one : (x : Option Operand) → operand_of s.env s.bindings bound b ≡ x → plain_read x ≡ Some r → IsPlainOf s bound b r
    one (Some o) is e = record { operand = o; stands = operand_is s bound b o is; is = sym (some_same _ r e) }
    one None is e = absurd (none_some r e)

-- of what a test for a constraint reads
pub by_is : (s : Setting) (bound : List ℕ) (b : BindingId) (c : Constraint) (r : Read) → match_read s bound b c ≡ Some r → IsReadBy s bound b c r
by_is s bound b (constraint.Variant ty variant) r e = read_is s bound true b r e
by_is s bound b (constraint.Struct ty) r e = read_is s bound true b r e
by_is s bound b (constraint.ConstBool val) r e = plain_is s bound b r e
by_is s bound b (constraint.ConstInt val ty) r e = plain_is s bound b r e
by_is s bound b (constraint.ConstPrim val) r e = plain_is s bound b r e
by_is s bound b constraint.Some r e = plain_is s bound b r e

-- ---- what is so is found

constant_found : {v : Value} {o : Operand} → IsConstant v o → constant v ≡ Some o
constant_found (stands.truth b) = refl
constant_found (stands.integer ty n) = refl
constant_found (stands.opaque ty n) = refl

-- of a path without a local
pub place_found : {env : Environment} {local : ℕ} {p : Path} {o : Operand} → IsInPlace env local p o → in_place env local p ≡ Some o
place_found (stands.argument i) = refl
place_found (stands.truth ty b) = refl
place_found (stands.integer ty n o h) = constant_found h
place_found (stands.named name) = refl
place_found {env = env} (stands.bare_struct ty f e) = ap (option_map (λ (x : Form). operand.Name (sym_text env x.ty))) e
place_found (stands.made_struct ty p ps) = refl
place_found (stands.made_variant ty variant ps) = refl

-- of a binding
pub operand_found : {o : Operand} (s : Setting) (bound : List ℕ) (b : BindingId) → IsOperandOf s bound b o → operand_of s.env s.bindings bound b ≡ Some o
operand_found s bound b (own_local is) = ap (λ x. cond x (Some (operand.Local b.0)) (in_place s.env b.0 (at (paths_of s.bindings) b))) is
operand_found s bound b (in_its_place o is h) = ap (λ x. cond x (Some (operand.Local b.0)) (in_place s.env b.0 (at (paths_of s.bindings) b))) is ∙ place_found h

as_found : {wanted is : Bool} {o : Operand} {r : Read} → IsReadAs wanted is o r → read_as wanted is o ≡ r
as_found (as_it_is true o) = refl
as_found (as_it_is false o) = refl
as_found (borrowed o) = refl
as_found (cloned o) = refl

-- of what is read
pub read_found : (s : Setting) (bound : List ℕ) (wanted : Bool) (b : BindingId) (r : Read) → IsReadOf s bound wanted b r → read_in s bound wanted b ≡ Some r
read_found s bound wanted b r h = ap (option_map (read_as wanted (is_reference_in s b))) (operand_found s bound b h.stands) ∙ ap Some (as_found h.how)

-- of what is read as it is
pub plain_found : (s : Setting) (bound : List ℕ) (b : BindingId) (r : Read) → IsPlainOf s bound b r → plain_read (operand_of s.env s.bindings bound b) ≡ Some r
plain_found s bound b r h = ap plain_read (operand_found s bound b h.stands) ∙ ap Some (sym h.is)

-- of what a test for a constraint reads
pub by_found : (s : Setting) (bound : List ℕ) (b : BindingId) (c : Constraint) (r : Read) → IsReadBy s bound b c r → match_read s bound b c ≡ Some r
by_found s bound b (constraint.Variant ty variant) r h = read_found s bound true b r h
by_found s bound b (constraint.Struct ty) r h = read_found s bound true b r h
by_found s bound b (constraint.ConstBool val) r h = plain_found s bound b r h
by_found s bound b (constraint.ConstInt val ty) r h = plain_found s bound b r h
by_found s bound b (constraint.ConstPrim val) r h = plain_found s bound b r h
by_found s bound b constraint.Some r h = plain_found s bound b r h
