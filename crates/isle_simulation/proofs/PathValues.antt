-- The values of paths that are spelled if they are read, and of constants that are tested for.
use Rattle.std.proofs.Common.{◌≡◌, ℕ, zero, suc, ℤ, List, [], ◌∷◌, map, false, Option, Some, None, refl, sym, ap, ◌∙◌, subst, take}
use Rattle.std.specs.Prelude.{IsSomeAnd, IsSome, option_and_then, slice_get}
use Rattle.isle_core.specs.declared.BindingId.{BindingId}
use Rattle.isle_core.specs.declared.Sym.{Sym}
use Rattle.isle_core.specs.declared.TypeId.{TypeId}
use Rattle.isle_core.specs.declared.rule_sets.Binding.{Binding}
use Rattle.isle_core.specs.declared.rule_sets.Binding.TheVariants as binding
use Rattle.isle_core.specs.declared.rule_sets.Constraint.{Constraint}
use Rattle.isle_core.specs.declared.rule_sets.Constraint.TheVariants as constraint
use Rattle.isle_core.specs.declared.types.BuiltinType.TheVariants as builtin
use Rattle.isle_core.specs.declared.types.TypeDef.{TypeDef}
use Rattle.isle_core.specs.declared.types.TypeDef.TheVariants as def
use Rattle.isle_core.specs.declared.types.Term.{Term}
use Rattle.isle_core.specs.Constants.{int_of_def, int_value, const_type}
use Rattle.isle_core.specs.ConstraintType.{IsConstraintOf}
use Rattle.isle_core.specs.Form.{Form, struct_form, form, form_types, form_value}
use Rattle.isle_core.specs.HasType.{typed_fields, IsOfDef, HasType, HaveTypes}
use Rattle.isle_core.specs.Having.{const_of}
use Rattle.isle_core.specs.Making.{MakesStruct}
use Rattle.isle_core.specs.Meaning.{Meaning}
use Rattle.isle_core.specs.Nameless.{nameless}
use Rattle.isle_core.specs.NamesApart.{IsPlainDef, ValuesConstants}
use Rattle.isle_core.specs.Path.{Path, Arg, ConstBool, ConstInt, ConstPrim, MadeStruct, NoPath, APath, at, path_over, paths_of}
use Rattle.isle_core.specs.PathType.{IsPathOf, ArePathsOf}
use Rattle.isle_core.specs.PatternType.{IsNumericDef}
use Rattle.isle_core.specs.Rule.{Environment}
use Rattle.isle_core.specs.SameInRun.{same_in_run}
use Rattle.isle_core.specs.Setting.{Setting}
use Rattle.isle_core.specs.Terms.{sym_text}
use Rattle.isle_core.specs.Value.{Value, Truth, Int, Opaque, Variant, Struct, NoField}
use Rattle.isle_core.specs.ValueAt.{Held, Known, a_value, held, value_at, is_const, meets}
use Rattle.isle_core.proofs.BindingPaths.{at_before, binding_at}
use Rattle.isle_tree.specs.Caller.{by_meaning}
use Rattle.isle_tree.specs.Run.{Around, Env, name_value, value_of}
use Rattle.isle_simulation.specs.Emitted.{AnswersBindings, HasPureExtractors, HasPureConstructors}
use Rattle.isle_simulation.specs.Operands.{constant, in_place}
use Rattle.isle_simulation.specs.RustNames.{HasRustNames}
use Rattle.isle_simulation.proofs.MadeValues.{made_typed}
use Rattle.isle_simulation.proofs.NamelessLaws.{run_same}
use Rattle.isle_simulation.proofs.Ready.{IsSpelled}
use Rattle.isle_simulation.proofs.Written.{written, written_test}

-- what a run of a block and one of its function are judged under
pub record Grounds (s : Setting) (u : Around) : Type 0 where
  pub asks : u.caller ≡ by_meaning u.meaning
  pub typed : HaveTypes s.env u.args s.term.arg_tys
  pub answers : AnswersBindings s.env u.meaning s.bindings
  pub constants : ValuesConstants s.env u.meaning
  pub names : HasRustNames s.env
  pub pure : HasPureExtractors s.env s.bindings
  pub pure_made : HasPureConstructors s.env

-- a place holds in the run what another one holds where a block runs, a value of the type, but for names
pub record IsValueAt (env : Environment) (h g : Held) (ty : TypeId) : Type 0 where
  pub v : Value
  pub r : Value
  pub run : h ≡ a_value r
  pub block : g ≡ a_value v
  pub same : nameless r ≡ nameless v
  pub typed : HasType env v ty

-- the same value in both
same_there : (env : Environment) (h g : Held) (ty : TypeId) (v : Value) → h ≡ a_value v → g ≡ a_value v → HasType env v ty → IsValueAt env h g ty
same_there env h g ty v e f k = record { v = v; r = v; run = e; block = f; same = refl; typed = k }

-- ---- named constants

-- the value of a constant is of its type
pub constant_typed : (env : Environment) (m : Meaning) (name : Sym) (ty : TypeId) (v : Value) → HasRustNames env → ValuesConstants env m → const_type env name ≡ Some ty → const_of m (sym_text env name) ≡ Some v → HasType env v ty
constant_typed env m name ty v names values e found =
    let k = values (sym_text env name) v found in
    subst (HasType env v) (names.texts k.1.0 name k.0 ty k.1.1 e k.1.2) k.2

-- a struct's name has no value
pub struct_unnamed : (env : Environment) (m : Meaning) (ty : TypeId) (f : Form) → HasRustNames env → ValuesConstants env m → form env (MakesStruct ty) ≡ Some f → const_of m (sym_text env f.ty) ≡ None
struct_unnamed env m ty f names values e = one (const_of m (sym_text env f.ty)) refl
  where
    one : (o : Option Value) → const_of m (sym_text env f.ty) ≡ o → o ≡ None
    one None k = refl
    one (Some v) k = let c = values (sym_text env f.ty) v k in absurd (names.apart.structs c.1.0 c.0 ty f c.1.1 e c.1.2)

-- where a constant stands at a path, it has a value
abbrev pub HasValue : Environment → Meaning → Path → Type 0
HasValue env m (ConstPrim name) = IsSome (const_of m (sym_text env name))
HasValue env m p = Unit {0}

same_name : (a b : Sym) → Some (binding.ConstPrim a) ≡ Some (binding.ConstPrim b) → a ≡ b
same_name a b e = cc

-- the constant among bindings has a value
binding_valued : (env : Environment) (m : Meaning) (bs : List Binding) (i : ℕ) (name : Sym) → AnswersBindings env m bs → slice_get bs i ≡ Some (binding.ConstPrim name) → IsSome (const_of m (sym_text env name))
binding_valued env m [] i name h e = cc
binding_valued env m (binding.ConstPrim val ∷ bs) zero name h e = subst (λ x. IsSome (const_of m (sym_text env x))) (same_name val name e) h.0
binding_valued env m (b ∷ bs) zero name h e = cc
binding_valued env m (binding.ConstPrim val ∷ bs) (suc i) name h e = binding_valued env m bs i name h.1 e
binding_valued env m (binding.Constructor term parameters instance ∷ bs) (suc i) name h e = binding_valued env m bs i name h.1 e
binding_valued env m (binding.Extractor term parameter ∷ bs) (suc i) name h e = binding_valued env m bs i name h.1 e
binding_valued env m (b ∷ bs) (suc i) name h e = binding_valued env m bs i name h e

pub constant_valued : (env : Environment) (m : Meaning) (bs : List Binding) (b : BindingId) → AnswersBindings env m bs → HasValue env m (at (paths_of bs) b)
constant_valued env m bs b h = one (at (paths_of bs) b) refl
  where
    of : (name : Sym) (x : Binding) → slice_get bs b.0 ≡ Some x → path_over (take b.0 (paths_of bs)) x ≡ ConstPrim name → IsSome (const_of m (sym_text env name))
    of name (binding.ConstPrim val) e k = let same : val ≡ name = cc in subst (λ y. IsSome (const_of m (sym_text env y))) same (binding_valued env m bs b.0 val h e)
    of name x e k = cc

    one : (p : Path) → at (paths_of bs) b ≡ p → HasValue env m p
    one (ConstPrim name) e = let x = binding_at bs b (rw e tt) in of name x.0 x.1 (sym (at_before bs b x.0 x.1) ∙ e)
    one p e = tt

-- ---- paths that are spelled

-- an argument of a type is there
argument_there : (env : Environment) (args : List Value) (tys : List TypeId) (i : ℕ) (ty : TypeId) → HaveTypes env args tys → slice_get tys i ≡ Some ty → (v : Value) × (slice_get args i ≡ Some v) × HasType env v ty
argument_there env [] [] i ty h e = cc
argument_there env (v ∷ args) (of ∷ tys) zero ty h e = (v, refl, subst (HasType env v) (same of ty e) h.0)
  where
    same : (a b : TypeId) → Some a ≡ Some b → a ≡ b
    same a b e = cc
argument_there env (v ∷ args) (of ∷ tys) (suc i) ty h e = argument_there env args tys i ty h.1 e
argument_there env [] (of ∷ tys) i ty h e = absurd h
argument_there env (v ∷ args) [] i ty h e = absurd h

-- a number of a type is spelled by its operand
pub record IsSpeltNumber (u : Around) (v : Value) : Type 0 where
  pub r : Value
  pub is : (locals : Env) → value_of u locals (written (constant v)) ≡ a_value r
  pub same : nameless r ≡ nameless v

number_there : (env : Environment) (o : Option TypeDef) (n : ℤ) (u : Around) → IsSomeAnd o IsNumericDef → IsSpeltNumber u (int_of_def env o n)
unfolding nameless
number_there env (Some (def.Builtin (builtin.Int ty))) n u h = record { r = Int ty n; is = λ locals. refl; same = refl }
number_there env (Some (def.Primitive name rust pos)) n u h = record { r = Opaque [] n; is = λ locals. refl; same = refl }
number_there env None n u h = absurd h
number_there env (Some (def.Builtin builtin.Bool)) n u h = absurd h
number_there env (Some (def.Enum name is_extern is_nodebug variants pos)) n u h = absurd h
number_there env (Some (def.Struct name is_extern is_nodebug fields pos)) n u h = absurd h

typed_number : (env : Environment) (of ty : TypeId) (n : ℤ) (u : Around) → of ≡ ty → IsSomeAnd (slice_get env.types.types ty.0) IsNumericDef → IsSpeltNumber u (int_value env of n)
typed_number env of ty n u e h = subst (λ x. IsSpeltNumber u (int_value env x n)) (sym e) (number_there env (slice_get env.types.types ty.0) n u h)

number_typed : (env : Environment) (of ty : TypeId) (n : ℤ) → of ≡ ty → HasType env (int_value env ty n) ty → HasType env (int_value env of n) ty
number_typed env of ty n e h = subst (λ x. HasType env (int_value env x n) ty) (sym e) h

no_types : (env : Environment) (t : Term) (fields : List (List ℕ × TypeId)) → ArePathsOf env t NoPath (map (λ (field : List ℕ × TypeId). field.1) fields) → fields ≡ []
no_types env t [] h = refl
no_types env t (f ∷ fields) h = absurd h

-- a form that is a struct's has no variant
struct_bare : (o : Option TypeDef) (f : Form) → option_and_then struct_form o ≡ Some f → f.variant ≡ None
struct_bare None f e = cc
struct_bare (Some (def.Struct name is_extern is_nodebug fields place)) f e = ap (λ (x : Form). x.variant) (sym (same (record { ty = name; variant = None; fields = fields }) f e))
  where
    same : (a b : Form) → Some a ≡ Some b → a ≡ b
    same a b k = cc
struct_bare (Some (def.Enum name is_extern is_nodebug variants place)) f e = cc
struct_bare (Some (def.Builtin of)) f e = cc
struct_bare (Some (def.Primitive name rust place)) f e = cc

pub struct_variant : (env : Environment) (ty : TypeId) (f : Form) → form env (MakesStruct ty) ≡ Some f → f.variant ≡ None
struct_variant env ty f e = struct_bare (slice_get env.types.types ty.0) f e

-- a struct without fields is spelled by its name
unit_reads : (env : Environment) (u : Around) (t : Term) (of ty : TypeId) (local : ℕ) (locals : Env) (o : Option Form) → HasRustNames env → ValuesConstants env u.meaning → form env (MakesStruct of) ≡ o → of ≡ ty
    → IsSomeAnd o (λ f. ArePathsOf env t NoPath (form_types env f)) → IsValueAt env (value_of u locals (written (in_place env local (MadeStruct of NoPath)))) (a_value (form_value env (form env (MakesStruct of)) [])) ty
unit_reads env u t of ty local locals None names values e is h = absurd h
unit_reads env u t of ty local locals (Some f) names values e is h =
    let empty = no_types env t (typed_fields env f.fields) h in
    let bare = struct_variant env of f e in
    let v : Value = Struct (sym_text env f.ty) NoField in
    let made : form_value env (Some f) [] ≡ v = rw (bare, empty) refl in
    same_there env _ _ ty v
    (rw e (ap (λ x. a_value (name_value x (sym_text env f.ty))) (struct_unnamed env u.meaning of f names values e)))
    (ap (λ x. a_value (form_value env x [])) e ∙ ap a_value made)
    (subst (λ x. HasType env x ty) made (made_typed env ty (MakesStruct of) f _ names.apart.variants is e (rw empty tt)))

-- a path of a type that is spelled has a value
pub path_reads : (env : Environment) (u : Around) (t : Term) (local : ℕ) (p : Path) (ty : TypeId) (known : Known) (locals : Env) → HaveTypes env u.args t.arg_tys → HasRustNames env → ValuesConstants env u.meaning → HasValue env u.meaning p
    → IsPathOf env t p ty → IsSpelled p → IsValueAt env (value_of u locals (written (in_place env local p))) (value_at env u.meaning u.args known p) ty
path_reads env u t local (Arg i) ty known locals h names values valued k is =
    let r = argument_there env u.args t.arg_tys i ty h k in
    same_there env _ _ ty r.0 (ap held r.1) (ap held r.1) r.2
path_reads env u t local (ConstBool of b) ty known locals h names values valued k is = same_there env _ _ ty (Truth b) refl refl k.1
path_reads env u t local (ConstInt of n) ty known locals h names values valued k is =
    let x = typed_number env of ty n u k.0 k.2 in
    record { v = int_value env of n; r = x.r; run = x.is locals; block = refl; same = x.same; typed = number_typed env of ty n k.0 k.1 }
path_reads env u t local (ConstPrim name) ty known locals h names values valued k is = one (const_of u.meaning (sym_text env name)) refl valued
  where
    one : (o : Option Value) → const_of u.meaning (sym_text env name) ≡ o → IsSome o → IsValueAt env (value_of u locals (written (in_place env local (ConstPrim name)))) (value_at env u.meaning u.args known (ConstPrim name)) ty
    one None e some = absurd cc
    one (Some v) e some = same_there env _ _ ty v (ap (λ x. a_value (name_value x (sym_text env name))) e) (ap held e) (constant_typed env u.meaning name ty v names values k e)
path_reads env u t local (MadeStruct of NoPath) ty known locals h names values valued k is = unit_reads env u t of ty local locals (form env (MakesStruct of)) names values refl k.0 k.1
path_reads env u t local (MadeStruct of (APath p ps)) ty known locals h names values valued k is = absurd is
path_reads env u t local p ty known locals h names values valued k is = absurd is

-- ---- constants that are tested for

-- the constraint tests for a value that a value of the type equals in the run if it meets the constraint
pub record TestsFor (env : Environment) (u : Around) (c : Constraint) (ty : TypeId) : Type 0 where
  pub w : Value
  pub place : (locals : Env) → value_of u locals (written_test env c) ≡ a_value w
  pub met : (r v : Value) → nameless r ≡ nameless v → HasType env v ty → same_in_run r w ≡ meets env u.meaning c (a_value v)

-- a constraint that tests for a value
abbrev pub IsConstant : Constraint → Type 0
IsConstant (constraint.ConstBool val) = Unit {0}
IsConstant (constraint.ConstInt val of) = Unit {0}
IsConstant (constraint.ConstPrim val) = Unit {0}
IsConstant c = ⊥

-- a value of a type without fields is no struct
no_struct : (env : Environment) (o : Option TypeDef) (r v : Value) (name : List ℕ) → nameless r ≡ nameless v → IsSomeAnd o IsPlainDef → IsSomeAnd o (λ d. IsOfDef env d v) → same_in_run r (Struct name NoField) ≡ false
unfolding nameless same_in_run
no_struct env None r v name e plain h = absurd h
no_struct env (Some (def.Enum n is_extern is_nodebug variants pos)) r v name e plain h = absurd plain
no_struct env (Some (def.Struct n is_extern is_nodebug fields pos)) r v name e plain h = absurd plain
no_struct env (Some d) (Truth a) v name e plain h = refl
no_struct env (Some d) (Int of n) v name e plain h = refl
no_struct env (Some d) (Opaque of n) v name e plain h = refl
no_struct env (Some d) (Variant of n fs) v name e plain h = refl
no_struct env (Some (def.Builtin of)) (Struct ty fs) (Struct other gs) name e plain h = absurd h
no_struct env (Some (def.Primitive n rust pos)) (Struct ty fs) (Struct other gs) name e plain h = absurd h
no_struct env (Some d) (Struct ty fs) (Truth b) name e plain h = cc
no_struct env (Some d) (Struct ty fs) (Int of n) name e plain h = cc
no_struct env (Some d) (Struct ty fs) (Opaque of n) name e plain h = cc
no_struct env (Some d) (Struct ty fs) (Variant of n gs) name e plain h = cc

name_tests : (env : Environment) (u : Around) (val : Sym) (ty : TypeId) (o : Option Value) → HasRustNames env → ValuesConstants env u.meaning → const_type env val ≡ Some ty → const_of u.meaning (sym_text env val) ≡ o → TestsFor env u (constraint.ConstPrim val) ty
name_tests env u val ty (Some w) names values k e = record {
  w = w;
  place = λ locals. ap (λ x. a_value (name_value x (sym_text env val))) e;
  met = λ r v same h. run_same env ty r w v w same refl h (constant_typed env u.meaning val ty w names values k e) ∙ ap (λ o. is_const o (a_value v)) (sym e);
}
name_tests env u val ty None names values k e = record {
  w = Struct (sym_text env val) NoField;
  place = λ locals. ap (λ x. a_value (name_value x (sym_text env val))) e;
  met = λ r v same h. no_struct env (slice_get env.types.types ty.0) r v (sym_text env val) same (names.apart.constants val ty k) h ∙ ap (λ o. is_const o (a_value v)) (sym e);
}

-- a constraint of a type tests for a value
pub constraint_tests : (env : Environment) (u : Around) (c : Constraint) (ty : TypeId) → HasRustNames env → ValuesConstants env u.meaning → IsConstraintOf env c ty → IsConstant c → TestsFor env u c ty
constraint_tests env u (constraint.ConstBool val) ty names values h is = record { w = Truth val; place = λ locals. refl; met = λ r v same k. run_same env ty r (Truth val) v (Truth val) same refl k h }
constraint_tests env u (constraint.ConstInt val of) ty names values h is =
    let x = typed_number env of ty val u h.0 h.2 in
    record { w = x.r; place = x.is; met = λ r v same k. run_same env ty r x.r v (int_value env of val) same x.same k (number_typed env of ty val h.0 h.1) }
constraint_tests env u (constraint.ConstPrim val) ty names values h is = name_tests env u val ty (const_of u.meaning (sym_text env val)) names values h refl
constraint_tests env u c ty names values h is = absurd is
