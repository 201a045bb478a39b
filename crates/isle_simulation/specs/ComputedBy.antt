-- What the local of a binding is bound to.
use Rattle.std.specs.Prelude.{◌≡◌, ℕ, ℤ, List, [], ◌∷◌, Bool, false, Some, slice_get}
use Rattle.std.specs.Option.{option_map_or}
use Rattle.isle_base.specs.declared.ids.VariantId.{VariantId}
use Rattle.isle_core.specs.declared.BindingId.{BindingId}
use Rattle.isle_core.specs.declared.Sym.{Sym}
use Rattle.isle_core.specs.declared.TermId.{TermId}
use Rattle.isle_core.specs.declared.TypeId.{TypeId}
use Rattle.isle_core.specs.declared.TupleIndex.{TupleIndex}
use Rattle.isle_core.specs.declared.rule_sets.Binding.{Binding}
use Rattle.isle_core.specs.declared.rule_sets.Binding.TheVariants as binding
use Rattle.isle_core.specs.declared.types.Term.{Term}
use Rattle.isle_core.specs.declared.values.Callee.{Callee}
use Rattle.isle_core.specs.Calling.{calling, extracting}
use Rattle.isle_core.specs.Form.{Form, form}
use Rattle.isle_core.specs.HasType.{typed_fields}
use Rattle.isle_core.specs.Making.{MakesVariant, MakesStruct}
use Rattle.isle_core.specs.Path.{at}
use Rattle.isle_core.specs.Setting.{Setting, paths_in}
use Rattle.isle_tree.specs.declared.tree.Operand.{Operand}
use Rattle.isle_tree.specs.declared.tree.Read.{Read}
use Rattle.isle_tree.specs.declared.tree.Read.TheVariants as read
use Rattle.isle_tree.specs.declared.tree.TExpr.{TExpr}
use Rattle.isle_tree.specs.declared.tree.TExpr.TheVariants as expr
use Rattle.isle_simulation.specs.OperandOf.{IsInPlace, IsOperandOf}
use Rattle.isle_simulation.specs.ReadOf.{IsReadOf}
use Rattle.isle_simulation.specs.References.{is_declared, is_reference_in, result_type}
use Rattle.isle_simulation.specs.Statements.{callee_of, made_of}

-- the bindings are handed to parameters of these types, in order: by reference if the type is an enum or a struct
pub data AreHanded (s : Setting) (bound : List ℕ) : List TypeId → List BindingId → List Read → Type 0 where
  none_handed : AreHanded s bound [] [] []
  one_handed : (ty : TypeId) (b : BindingId) (r : Read) (tys : List TypeId) (bs : List BindingId) (rs : List Read)
      → IsReadOf s bound (is_declared s.env ty) b r → AreHanded s bound tys bs rs → AreHanded s bound (ty ∷ tys) (b ∷ bs) (r ∷ rs)

-- the bindings are put into these fields, in order: never by reference
pub data ArePut (s : Setting) (bound : List ℕ) : List (List ℕ × TypeId) → List BindingId → List (List ℕ × Read) → Type 0 where
  none_put : ArePut s bound [] [] []
  one_put : (f : List ℕ × TypeId) (b : BindingId) (r : Read) (fs : List (List ℕ × TypeId)) (bs : List BindingId) (rs : List (List ℕ × Read))
      → IsReadOf s bound false b r → ArePut s bound fs bs rs → ArePut s bound (f ∷ fs) (b ∷ bs) ((f.0, r) ∷ rs)

-- the expression computes the binding of this number: a call on its parameters, behind a & if it gives an enum or a struct, also of an extractor;
-- the inner value of an option; a part of a tuple; a made value; or what is read in its place. Items of lists, fields and made options are
-- computed by none
pub data IsComputed (s : Setting) (bound : List ℕ) (b : BindingId) : Binding → TExpr → Type 0 where
  call : (term : TermId) (parameters : List BindingId) (instance : ℕ) (t : Term) (callee : Callee) (args : List Read)
      → slice_get s.env.terms term.0 ≡ Some t → callee_of (calling s.env term) ≡ Some callee → AreHanded s bound t.arg_tys parameters args
      → IsComputed s bound b (binding.Constructor term parameters instance) (expr.Call (is_declared s.env t.ret_ty) (record { callee = callee; args = args }))
  extraction : (term : TermId) (parameter : BindingId) (t : Term) (callee : Callee) (args : List Read)
      → slice_get s.env.terms term.0 ≡ Some t → callee_of (extracting s.env term) ≡ Some callee → AreHanded s bound (t.ret_ty ∷ []) (parameter ∷ []) args
      → IsComputed s bound b (binding.Extractor term parameter) (expr.Call (option_map_or (is_declared s.env) (result_type (Some t)) false) (record { callee = callee; args = args }))
  inner : (source : BindingId) (o : Operand) → IsOperandOf s bound source o → IsComputed s bound b (binding.MatchSome source) (expr.Try o (is_reference_in s source))
  part : (source : BindingId) (field : TupleIndex) (o : Operand) → IsOperandOf s bound source o → IsComputed s bound b (binding.MatchTuple source field) (expr.Tuple o field.0)
  variant : (ty : TypeId) (variant : VariantId) (fields : List BindingId) (f : Form) (xs : List (List ℕ × Read))
      → form s.env (MakesVariant ty variant) ≡ Some f → ArePut s bound (typed_fields s.env f.fields) fields xs → IsComputed s bound b (binding.MakeVariant ty variant fields) (made_of s.env f xs)
  struct' : (ty : TypeId) (fields : List BindingId) (f : Form) (xs : List (List ℕ × Read))
      → form s.env (MakesStruct ty) ≡ Some f → ArePut s bound (typed_fields s.env f.fields) fields xs → IsComputed s bound b (binding.MakeStruct ty fields) (made_of s.env f xs)
  argument : (index : _) (o : Operand) → IsInPlace s.env b.0 (at (paths_in s) b) o → IsComputed s bound b (binding.Argument index) (expr.Read (read.Plain o))
  truth : (val : Bool) (ty : TypeId) (o : Operand) → IsInPlace s.env b.0 (at (paths_in s) b) o → IsComputed s bound b (binding.ConstBool val ty) (expr.Read (read.Plain o))
  integer : (val : ℤ) (ty : TypeId) (o : Operand) → IsInPlace s.env b.0 (at (paths_in s) b) o → IsComputed s bound b (binding.ConstInt val ty) (expr.Read (read.Plain o))
  named : (val : Sym) (o : Operand) → IsInPlace s.env b.0 (at (paths_in s) b) o → IsComputed s bound b (binding.ConstPrim val) (expr.Read (read.Plain o))
