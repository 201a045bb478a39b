-- What lets read is there, and what they compute holds what their paths are.
use Rattle.std.proofs.Common.{◌≡◌, ⊎_elim, ℕ, suc, List, [], ◌∷◌, ◌++◌, length, ◌<◌, Bool, true, false, cond, eqb, Option, Some, None, map, slice_get, refl, sym, ap, ◌∙◌, subst}
use Rattle.std.specs.Prelude.{◌||◌, IsSome, IsSomeAnd, IsTrue, option_map}
use Rattle.std.specs.Option.{option_map_or}
use Rattle.std.proofs.lemmas.Bool.{eqb-true, lt-ltb}
use Rattle.std.proofs.lemmas.List.{length-map}
use Rattle.std.proofs.lemmas.List.Sums.{fold_push}
use Rattle.std.proofs.lemmas.Option.{slice_get_within}
use Rattle.isle_core.specs.declared.types.ReturnKind.{ReturnKind}
use Rattle.isle_core.specs.declared.types.ReturnKind.TheVariants as return_kind
use Rattle.isle_core.specs.declared.BindingId.{BindingId}
use Rattle.isle_core.specs.declared.Sym.{Sym}
use Rattle.isle_core.specs.declared.TypeId.{TypeId}
use Rattle.isle_core.specs.declared.rule_sets.Binding.{Binding}
use Rattle.isle_core.specs.declared.rule_sets.Binding.TheVariants as binding
use Rattle.isle_core.specs.declared.rule_sets.Constraint.{Constraint}
use Rattle.isle_core.specs.declared.rule_sets.Constraint.TheVariants as constraint
use Rattle.isle_core.specs.declared.types.Term.{Term}
use Rattle.isle_core.specs.Calling.{Calling, ByTurns, ByCases, NoCall, calling, extracting, kind_of, answers_often, is_several}
use Rattle.isle_core.specs.Constants.{int_value}
use Rattle.isle_core.specs.Form.{Form, form}
use Rattle.isle_core.specs.HasType.{typed_fields}
use Rattle.isle_core.specs.Making.{Making, MakesVariant, MakesStruct}
use Rattle.isle_core.specs.Path.{Path, Paths, Arg, ConstBool, ConstInt, ConstPrim, Extracted, Called, MadeStruct, Inner, NoPath, APath, at, at_all}
use Rattle.isle_core.specs.Bindable.{IsPlain, bound_by}
use Rattle.isle_core.specs.ExternalCall.{IsCall, IsExtraction}
use Rattle.isle_core.specs.PathType.{AreTuple, IsPathOf, IsTupleOf, IsOptionOf, IsListOf, ArePathsOf}
use Rattle.isle_core.specs.Rule.{Environment}
use Rattle.isle_core.specs.Setting.{Setting, paths_in}
use Rattle.isle_core.specs.Terms.{sym_text}
use Rattle.isle_core.specs.Value.{Value, Truth, Int, Opaque, Variant, Struct}
use Rattle.isle_tree.specs.declared.holds.Holds.{Holds}
use Rattle.isle_tree.specs.declared.holds.Holds.TheVariants as holds
use Rattle.isle_tree.specs.declared.holds.Item.{Item}
use Rattle.isle_tree.specs.declared.holds.Item.TheVariants as item
use Rattle.isle_tree.specs.declared.tree.Operand.{Operand}
use Rattle.isle_tree.specs.declared.tree.Operand.TheVariants as operand
use Rattle.isle_tree.specs.declared.tree.Read.{Read}
use Rattle.isle_tree.specs.declared.tree.TExpr.TheVariants as expr
use Rattle.isle_tree.specs.Program.{Body, Stmt, Let, LetList}
use Rattle.isle_tree.specs.WellFormed.{Locals, Callables, newer, local_holds, operand_holds, read_holds, is_value, are_values, results_item, kind_holds, once_holds, call_holds, part_holds, callee_holds, inner_holds, are_field_values, made_holds, expr_holds, after_let, IsBodyScoped, called_holds, list_holds, bound_after, IsStmtScoped}
use Rattle.isle_simulation.specs.Operands.{constant, in_place, is_bound}
use Rattle.isle_simulation.specs.References.{is_declared, result_type, is_reference_in, read_as}
use Rattle.isle_simulation.specs.Statements.{made_named, local_stmt, binds_list, is_list}
use Rattle.isle_simulation.proofs.HeldAnswers.{results_are}
use Rattle.isle_simulation.proofs.OneBind.{no_option, no_tuple, spelled, no_list}
use Rattle.isle_simulation.proofs.BoundTests.{found}
use Rattle.isle_simulation.proofs.CompletedRuns.{bound_push}
use Rattle.isle_simulation.proofs.ExternalTerms.{external_extractor, extractor_found}
use Rattle.isle_simulation.proofs.PathTypes.{one_within, tuple_many}
use Rattle.isle_simulation.proofs.PathValues.{IsConstant}
use Rattle.isle_simulation.proofs.Ready.{IsSpelled, IsReady, IsOptionReady, AreReady, IsMadeReady, IsReadyBind, AreReadyBinds}
use Rattle.isle_simulation.proofs.Written.{written, written_operand, written_read, written_place, written_test, callee_of, reads, call_expr, extraction_expr, field_reads, made_expr, bound_expr, lets}
use Rattle.isle_simulation.specs.TermFns.{callables_of}
use Rattle.isle_simulation.specs.TypeTexts.{type_text}
use Rattle.isle_simulation.proofs.CalledTerms.{HasCallees, callee_answers}
use Rattle.isle_tree.specs.declared.tree.TExpr.TheVariants.{Call}
use Rattle.isle_tree.specs.declared.tree.TExpr.{TExpr}
use Rattle.isle_simulation.proofs.LocalStmts.{local_by}
use Rattle.isle_tree.specs.declared.tree.TCall.{TCall}

-- ---- operands

-- a value is held
abbrev pub one_value : Option Holds
one_value = Some (holds.One item.Value)

constant_holds : (v : Value) (params : ℕ) (locals : Locals) → operand_holds params locals (written (constant v)) ≡ one_value
constant_holds (Truth b) params locals = refl
constant_holds (Int ty n) params locals = refl
constant_holds (Opaque ty n) params locals = refl
constant_holds (Variant ty name fields) params locals = refl
constant_holds (Struct ty fields) params locals = refl

name_holds : (env : Environment) (params : ℕ) (locals : Locals) (o : Option Form) → operand_holds params locals (written (option_map (λ (f : Form). operand.Name (sym_text env f.ty)) o)) ≡ one_value
name_holds env params locals None = refl
name_holds env params locals (Some f) = refl

-- a path of a type that is spelled holds a value
place_holds : (env : Environment) (t : Term) (local : ℕ) (p : Path) (ty : TypeId) (locals : Locals) → IsPathOf env t p ty → IsSpelled p → operand_holds (length t.arg_tys) locals (written (in_place env local p)) ≡ one_value
place_holds env t local (Arg i) ty locals h k = ap (λ b. cond b one_value None) (lt-ltb i (length t.arg_tys) (slice_get_within t.arg_tys i ty h))
place_holds env t local (ConstBool of b) ty locals h k = refl
place_holds env t local (ConstInt of n) ty locals h k = constant_holds (int_value env of n) (length t.arg_tys) locals
place_holds env t local (ConstPrim name) ty locals h k = refl
place_holds env t local (MadeStruct of NoPath) ty locals h k = name_holds env (length t.arg_tys) locals (form env (MakesStruct of))
place_holds env t local (MadeStruct of (APath p ps)) ty locals h k = absurd k
place_holds env t local p ty locals h k = absurd k

-- a constant is tested for
pub tested_holds : (env : Environment) (c : Constraint) (params : ℕ) (locals : Locals) → IsConstant c → operand_holds params locals (written_test env c) ≡ one_value
tested_holds env (constraint.ConstBool val) params locals h = refl
tested_holds env (constraint.ConstInt val of) params locals h = constant_holds (int_value env of val) params locals
tested_holds env (constraint.ConstPrim val) params locals h = refl
tested_holds env c params locals h = absurd h

-- what results of these types are
abbrev pub items : Environment → List TypeId → Item
items env tys = results_item (map (type_text env) tys)

-- a value if a path is of a type, a tuple if it is one, an option if it is an option's, and a list if it is a list's
pub record HoldsAs (env : Environment) (t : Term) (p : Path) (o : Option Holds) : Type 0 where
  pub value : (ty : TypeId) → IsPathOf env t p ty → o ≡ one_value
  pub tuple : (tys : List TypeId) → IsTupleOf env t p tys → o ≡ Some (holds.One (items env tys))
  pub option : (tys : List TypeId) → IsOptionOf env t p tys → o ≡ Some (holds.Optional (items env tys))
  pub list : (tys : List TypeId) → IsListOf env t p tys → o ≡ Some (holds.Several (items env tys))

-- each that is bound holds what its path is
pub record LocalsHold (s : Setting) (bound : List ℕ) (locals : Locals) : Type 0 where
  pub by : (c : BindingId) → is_bound bound c ≡ true → HoldsAs s.env s.term (at (paths_in s) c) (local_holds locals c.0)

pub none_hold : (s : Setting) → LocalsHold s [] []
none_hold s = record { by = λ c e. cc }

pub more_hold : (s : Setting) (bound : List ℕ) (locals : Locals) (b : BindingId) (h : Holds) → LocalsHold s bound locals → HoldsAs s.env s.term (at (paths_in s) b) (Some h) → LocalsHold s (bound ++ b.0 ∷ []) (locals ++ (b.0, h) ∷ [])
more_hold s bound locals b h l here = record { by = λ c e. one c (eqb b.0 c.0) refl (sym (bound_push bound b c) ∙ e) }
  where
    older : (x : Bool) → (x || false) ≡ true → x ≡ true
    older true e = refl
    older false e = e

    one : (c : BindingId) (same : Bool) → eqb b.0 c.0 ≡ same → (is_bound bound c || eqb b.0 c.0) ≡ true → HoldsAs s.env s.term (at (paths_in s) c) (local_holds (locals ++ (b.0, h) ∷ []) c.0)
    one c true is e =
        let there : at (paths_in s) b ≡ at (paths_in s) c = ap (λ n. at (paths_in s) (record { 0 = n })) (eqb-true b.0 c.0 is) in
        subst (HoldsAs s.env s.term (at (paths_in s) c)) (sym (fold_push (newer c.0) None locals (b.0, h) ∙ ap (λ x. cond x (Some h) (local_holds locals c.0)) is)) (subst (λ p. HoldsAs s.env s.term p (Some h)) there here)
    one c false is e =
        subst (HoldsAs s.env s.term (at (paths_in s) c)) (sym (fold_push (newer c.0) None locals (b.0, h) ∙ ap (λ x. cond x (Some h) (local_holds locals c.0)) is))
        (l.by c (older (is_bound bound c) (subst (λ x. (is_bound bound c || x) ≡ true) is e)))

pub operand_one : (s : Setting) (bound : List ℕ) (locals : Locals) (b : BindingId) (ty : TypeId) → LocalsHold s bound locals → IsReady s bound b ty → operand_holds (length s.term.arg_tys) locals (written_operand s bound b) ≡ one_value
operand_one s bound locals b ty l h = one (is_bound bound b) refl
  where
    one : (x : Bool) → is_bound bound b ≡ x → operand_holds (length s.term.arg_tys) locals (written_operand s bound b) ≡ one_value
    one true is = rw is ((l.by b is).value ty h.path)
    one false is = rw is (⊎_elim (λ k. absurd (let bad : false ≡ true = sym is ∙ k in cc)) (λ k. place_holds s.env s.term b.0 (at (paths_in s) b) ty locals h.path k) h.place)

-- an option that is bound
pub operand_option : (s : Setting) (bound : List ℕ) (locals : Locals) (b : BindingId) (tys : List TypeId) → LocalsHold s bound locals → IsOptionReady s bound b tys → operand_holds (length s.term.arg_tys) locals (written_operand s bound b) ≡ Some (holds.Optional (items s.env tys))
operand_option s bound locals b tys l h = rw h.bound' ((l.by b h.bound').option tys h.path)

read_same : (params : ℕ) (locals : Locals) (wanted is : Bool) (o : Operand) → read_holds params locals (read_as wanted is o) ≡ operand_holds params locals o
read_same params locals true true o = refl
read_same params locals true false o = refl
read_same params locals false true o = refl
read_same params locals false false o = refl

pub read_one : (s : Setting) (bound : List ℕ) (locals : Locals) (wanted : Bool) (b : BindingId) (ty : TypeId) → LocalsHold s bound locals → IsReady s bound b ty → read_holds (length s.term.arg_tys) locals (written_read s bound wanted b) ≡ one_value
read_one s bound locals wanted b ty l h = read_same (length s.term.arg_tys) locals wanted (is_reference_in s b) (written_operand s bound b) ∙ operand_one s bound locals b ty l h

pub is_one : (o : Option Holds) → o ≡ one_value → IsTrue (is_value o)
is_one o e = subst (λ x. IsTrue (is_value x)) (sym e) refl

reads_hold : (s : Setting) (bound : List ℕ) (locals : Locals) (tys : List TypeId) (parameters : List BindingId) → LocalsHold s bound locals → AreReady s bound parameters tys
    → (are_values (length s.term.arg_tys) locals (reads s bound tys parameters) ≡ true) × (length (reads s bound tys parameters) ≡ length tys)
reads_hold s bound locals [] [] l h = (refl, refl)
reads_hold s bound locals (ty ∷ tys) (b ∷ more) l h =
    let here = read_one s bound locals (is_declared s.env ty) b ty l h.0 in
    let rest = reads_hold s bound locals tys more l h.1 in
    (rw here rest.0, ap suc rest.1)
reads_hold s bound locals (ty ∷ tys) [] l h = absurd h
reads_hold s bound locals [] (b ∷ more) l h = absurd h

fields_hold : (s : Setting) (bound : List ℕ) (locals : Locals) (fields : List (List ℕ × TypeId)) (parts : List BindingId) → LocalsHold s bound locals → AreReady s bound parts (map (λ (f : List ℕ × TypeId). f.1) fields)
    → are_field_values (length s.term.arg_tys) locals (field_reads s bound fields parts) ≡ true
fields_hold s bound locals [] [] l h = refl
fields_hold s bound locals (f ∷ fields) (b ∷ more) l h = rw (read_one s bound locals false b f.1 l h.0) (fields_hold s bound locals fields more l h.1)
fields_hold s bound locals (f ∷ fields) [] l h = absurd h
fields_hold s bound locals [] (b ∷ more) l h = absurd h

-- ---- lets

-- what a statement binds
abbrev stmt_holds : Callables → ℕ → Locals → Stmt → Option Holds
stmt_holds fns params locals (Let n e) = expr_holds fns params locals e
stmt_holds fns params locals (LetList n call) = list_holds (called_holds fns params locals call)
stmt_holds fns params locals other = None

-- what a let computes holds this, which is what the path is
record LetHolds (s : Setting) (bound : List ℕ) (locals : Locals) (b : BindingId) (o : Option Binding) : Type 0 where
  h : Holds
  is : stmt_holds (callables_of s.env) (length s.term.arg_tys) locals (local_stmt (is_list s.env o) b.0 (bound_expr s bound b o)) ≡ Some h
  kept : HoldsAs s.env s.term (at (paths_in s) b) (Some h)

plain_let : (s : Setting) (bound : List ℕ) (locals : Locals) (b : BindingId) → IsPlain s.env s.term (at (paths_in s) b)
    → (operand_holds (length s.term.arg_tys) locals (written_place s b) ≡ one_value) × HoldsAs s.env s.term (at (paths_in s) b) one_value
plain_let s bound locals b k = (
  place_holds s.env s.term b.0 (at (paths_in s) b) k.1.0 locals k.1.1 (spelled (at (paths_in s) b) k.0),
  record { value = λ ty h. refl; tuple = λ tys h. absurd (no_tuple s.env s.term (at (paths_in s) b) tys k.0 h); option = λ tys h. absurd (no_option s.env s.term (at (paths_in s) b) tys k.0 h); list = λ tys h. absurd (no_list s.env s.term (at (paths_in s) b) tys k.0 h) },
)

-- a call is of one kind
one_call : (a b : ReturnKind) (c : Calling) → IsCall a c → IsCall b c → a ≡ b
one_call a b (ByTurns callee p) h k = sym h ∙ k
one_call a b (ByCases callee p) h k = sym h ∙ k
one_call a b NoCall h k = absurd h

one_extraction : (a b : ReturnKind) (c : Calling) → IsExtraction a c → IsExtraction b c → a ≡ b
one_extraction a b (ByCases callee p) h k = sym h.0 ∙ k.0
one_extraction a b (ByTurns callee p) h k = absurd h
one_extraction a b NoCall h k = absurd h

-- the one result of a call
one_item : (env : Environment) (o : Option Term) (tys : List TypeId) (P : Term → Type 0) → IsSomeAnd o (λ (c : Term). (c.ret_ty ∷ [] ≡ tys) × P c) → item.Value ≡ items env tys
one_item env None tys P h = absurd h
one_item env (Some c) tys P h = ap (items env) h.0

-- an answer of the kind, and with what, that the path's type says
record AnswersAs (env : Environment) (t : Term) (p : Path) (of : ReturnKind) (x : Item) : Type 0 where
  plain : (ty : TypeId) → IsPathOf env t p ty → (of ≡ return_kind.Plain) × (x ≡ item.Value)
  tuple : (tys : List TypeId) → IsTupleOf env t p tys → (of ≡ return_kind.Plain) × (x ≡ items env tys)
  option : (tys : List TypeId) → IsOptionOf env t p tys → (of ≡ return_kind.Option) × (x ≡ items env tys)
  list : (tys : List TypeId) → IsListOf env t p tys → (of ≡ return_kind.Iterator) × (x ≡ items env tys)

answer_as : (env : Environment) (t : Term) (p : Path) (of : ReturnKind) (x : Item) → AnswersAs env t p of x → HoldsAs env t p (Some (kind_holds of x))
answer_as env t p of x a = record {
  value = λ ty h. let k = a.plain ty h in ap (λ y. Some (kind_holds y x)) k.0 ∙ ap (λ y. Some (holds.One y)) k.1;
  tuple = λ tys h. let k = a.tuple tys h in ap (λ y. Some (kind_holds y x)) k.0 ∙ ap (λ y. Some (holds.One y)) k.1;
  option = λ tys h. let k = a.option tys h in ap (λ y. Some (kind_holds y x)) k.0 ∙ ap (λ y. Some (holds.Optional y)) k.1;
  list = λ tys h. let k = a.list tys h in ap (λ y. Some (kind_holds y x)) k.0 ∙ ap (λ y. Some (holds.Several y)) k.1;
}

-- how often a call answers
often_of : (of : ReturnKind) (c : Calling) → IsCall of c → answers_often c ≡ is_several of
often_of of (ByTurns callee p) h = ap is_several h
often_of of (ByCases callee p) h = ap is_several h
often_of of NoCall h = absurd h

extracted_often : (of : ReturnKind) (c : Calling) → IsExtraction of c → answers_often c ≡ is_several of
extracted_often of (ByCases callee p) h = ap is_several h.0
extracted_often of (ByTurns callee p) h = absurd h
extracted_often of NoCall h = absurd h

-- a call is bound as it answers
bound_call : (of : ReturnKind) (often : Bool) (n : ℕ) (fns : Callables) (params : ℕ) (locals : Locals) (borrow : Bool) (call : TCall) (x : Item) → often ≡ is_several of → called_holds fns params locals call ≡ Some (kind_holds of x)
    → stmt_holds fns params locals (local_stmt often n (expr.Call borrow call)) ≡ Some (kind_holds of x)
bound_call return_kind.Plain often n fns params locals borrow call x e h = ap (λ y. stmt_holds fns params locals (local_stmt y n (expr.Call borrow call))) e ∙ ap once_holds h
bound_call return_kind.Option often n fns params locals borrow call x e h = ap (λ y. stmt_holds fns params locals (local_stmt y n (expr.Call borrow call))) e ∙ ap once_holds h
bound_call return_kind.Iterator often n fns params locals borrow call x e h = ap (λ y. stmt_holds fns params locals (local_stmt y n (expr.Call borrow call))) e ∙ ap list_holds h

-- a call of what takes as many
call_answers : (s : Setting) (bound : List ℕ) (locals : Locals) (callee : _) (tys : List TypeId) (parameters : List BindingId) (of : ReturnKind) (x : Item) → LocalsHold s bound locals → AreReady s bound parameters tys
    → callee_holds (callables_of s.env) callee (length tys) ≡ Some (kind_holds of x) → called_holds (callables_of s.env) (length s.term.arg_tys) locals (record { callee = callee; args = reads s bound tys parameters }) ≡ Some (kind_holds of x)
call_answers s bound locals callee tys parameters of x l args k =
    let r = reads_hold s bound locals tys parameters l args in
    ap (λ y. cond y (callee_holds (callables_of s.env) callee (length (reads s bound tys parameters))) None) r.0 ∙ ap (callee_holds (callables_of s.env) callee) r.1 ∙ k

call_let : (s : Setting) (bound : List ℕ) (locals : Locals) (n : ℕ) (often : Bool) (o : Option Term) (called : Term) (callee : _) (parameters : List BindingId) (of : ReturnKind) (x : Item) → often ≡ is_several of → o ≡ Some called → LocalsHold s bound locals → AreReady s bound parameters called.arg_tys
    → callee_holds (callables_of s.env) callee (length called.arg_tys) ≡ Some (kind_holds of x) → stmt_holds (callables_of s.env) (length s.term.arg_tys) locals (local_stmt often n (call_expr s bound o callee parameters)) ≡ Some (kind_holds of x)
call_let s bound locals n often o called callee parameters of x e there l args k =
    ap (λ y. stmt_holds (callables_of s.env) (length s.term.arg_tys) locals (local_stmt often n (call_expr s bound y callee parameters))) there
    ∙ bound_call of often n (callables_of s.env) (length s.term.arg_tys) locals (is_declared s.env called.ret_ty) (record { callee = callee; args = reads s bound called.arg_tys parameters }) x e (call_answers s bound locals callee called.arg_tys parameters of x l args k)

extraction_let : (s : Setting) (bound : List ℕ) (locals : Locals) (n : ℕ) (often : Bool) (o : Option Term) (called : Term) (callee : _) (parameter : BindingId) (of : ReturnKind) (x : Item) → often ≡ is_several of → o ≡ Some called → LocalsHold s bound locals → IsReady s bound parameter called.ret_ty
    → callee_holds (callables_of s.env) callee 1 ≡ Some (kind_holds of x) → stmt_holds (callables_of s.env) (length s.term.arg_tys) locals (local_stmt often n (extraction_expr s bound o callee parameter)) ≡ Some (kind_holds of x)
extraction_let s bound locals n often o called callee parameter of x e there l arg k =
    ap (λ y. stmt_holds (callables_of s.env) (length s.term.arg_tys) locals (local_stmt often n (extraction_expr s bound y callee parameter))) there
    ∙ bound_call of often n (callables_of s.env) (length s.term.arg_tys) locals (option_map_or (is_declared s.env) (result_type (Some called)) false) (record { callee = callee; args = reads s bound (called.ret_ty ∷ []) (parameter ∷ []) }) x e
    (call_answers s bound locals callee (called.ret_ty ∷ []) (parameter ∷ []) of x l (arg, tt) k)

named_holds : (fns : Callables) (env : Environment) (params : ℕ) (locals : Locals) (ty : Sym) (variant : Option Sym) (fs : List (List ℕ × Read)) → are_field_values params locals fs ≡ true → expr_holds fns params locals (made_named env ty variant fs) ≡ one_value
named_holds fns env params locals ty (Some variant) fs e = ap made_holds e
named_holds fns env params locals ty None [] e = refl
named_holds fns env params locals ty None (f ∷ fs) e = ap made_holds e

made_let : (s : Setting) (bound : List ℕ) (locals : Locals) (p : Path) (over : Paths → Path) (mk : Making) (fields : List BindingId) → LocalsHold s bound locals → IsMadeReady s bound p over mk fields
    → expr_holds (callables_of s.env) (length s.term.arg_tys) locals (made_expr s bound (form s.env mk) fields) ≡ one_value
made_let s bound locals p over mk fields l is =
    ap (λ o. expr_holds (callables_of s.env) (length s.term.arg_tys) locals (made_expr s bound o fields)) is.found
    ∙ named_holds (callables_of s.env) s.env (length s.term.arg_tys) locals is.f.ty is.f.variant (field_reads s bound (typed_fields s.env is.f.fields) fields) (fields_hold s bound locals (typed_fields s.env is.f.fields) fields l is.parts)

-- what is within an option holds its results
pub within_holds : (s : Setting) (p : Path) (tys : List TypeId) → IsOptionOf s.env s.term p tys → HoldsAs s.env s.term (Inner p) (Some (holds.One (items s.env tys)))
within_holds s p tys of = record {
  value = λ ty h. ap (λ (xs : List TypeId). Some (holds.One (items s.env xs))) (one_within s.env s.term p tys (ty ∷ []) of h);
  tuple = λ tys' h. ap (λ (xs : List TypeId). Some (holds.One (items s.env xs))) (one_within s.env s.term p tys tys' of h.1);
  option = λ tys' h. absurd h;
  list = λ tys' h. absurd h;
}

-- a part of a tuple is there
part_there : (env : Environment) (part : ℕ) (tys : List TypeId) (ty : TypeId) → AreTuple tys → slice_get tys part ≡ Some ty → part_holds part (Some (holds.One (items env tys))) ≡ one_value
part_there env part [] ty several at' = cc
part_there env part (of ∷ []) ty several at' = absurd several
part_there env part (of ∷ more ∷ tys) ty several at' =
    let same : length (map (type_text env) (of ∷ more ∷ tys)) ≡ length (of ∷ more ∷ tys) = length-map (of ∷ more ∷ tys) (type_text env) in
    let low : part < length (of ∷ more ∷ tys) = slice_get_within (of ∷ more ∷ tys) part ty at' in
    ap (λ b. cond b one_value None) (lt-ltb part (length (map (type_text env) (of ∷ more ∷ tys))) (subst (λ n. part < n) (sym same) low))

let_holds : (s : Setting) (bound : List ℕ) (locals : Locals) (b : BindingId) (o : Option Binding) → HasCallees s.env → LocalsHold s bound locals → IsReadyBind s bound (at (paths_in s) b) o → LetHolds s bound locals b o
let_holds s bound locals b (Some (binding.Constructor term parameters k)) names l is =
    let ps = at_all (paths_in s) parameters in
    let kind = λ (of : ReturnKind) (h : IsCall of (calling s.env term)). one_call is.kind of (calling s.env term) is.external h in
    let one = λ (tys : List TypeId) (h : IsSomeAnd (slice_get s.env.terms term.0) (λ (c : Term). (c.ret_ty ∷ [] ≡ tys) × ArePathsOf s.env s.term ps c.arg_tys)).
    one_item s.env (slice_get s.env.terms term.0) tys (λ (c : Term). ArePathsOf s.env s.term ps c.arg_tys) h in
    record {
      h = kind_holds is.kind item.Value;
      is =
          call_let s bound locals b.0 (answers_often (calling s.env term)) (slice_get s.env.terms term.0) is.called (callee_of (calling s.env term)) parameters is.kind item.Value (often_of is.kind (calling s.env term) is.external) is.found l is.args
          (callee_answers s.env term is.called is.kind names is.found is.external);
      kept = subst (λ q. HoldsAs s.env s.term q (Some (kind_holds is.kind item.Value))) (sym is.path)
          (answer_as s.env s.term (Called term ps k) is.kind item.Value (record {
            plain = λ ty h. (kind return_kind.Plain h.0, refl);
            tuple = λ tys h. absurd h;
            option = λ tys h. (kind return_kind.Option h.0, one tys h.1);
            list = λ tys h. (kind return_kind.Iterator h.0, one tys h.1);
          }));
    }
let_holds s bound locals b (Some (binding.Extractor term parameter)) names l is =
    let x = external_extractor s.env term is.called is.kind is.found is.external in
    let given = items s.env is.called.arg_tys in
    let p = at (paths_in s) parameter in
    let kind = λ (of : ReturnKind) (h : IsExtraction of (extracting s.env term)). one_extraction is.kind of (extracting s.env term) is.external h in
    let same : (tys : List TypeId) → IsSomeAnd (slice_get s.env.terms term.0) (λ (c : Term). (c.arg_tys ≡ tys) × IsPathOf s.env s.term p c.ret_ty) → given ≡ items s.env tys =
    λ tys h. ap (items s.env) (results_are (slice_get s.env.terms term.0) is.called tys (λ (c : Term). IsPathOf s.env s.term p c.ret_ty) is.found h) in
    record {
      h = kind_holds is.kind given;
      is =
          extraction_let s bound locals b.0 (answers_often (extracting s.env term)) (slice_get s.env.terms term.0) is.called (callee_of (extracting s.env term)) parameter is.kind given (extracted_often is.kind (extracting s.env term) is.external) is.found l is.arg
          (ap (λ y. callee_holds (callables_of s.env) y 1) x.callee ∙ ap (λ y. call_holds y 1) (extractor_found s.env term is.called is.kind names.fns is.found x));
      kept = subst (λ q. HoldsAs s.env s.term q (Some (kind_holds is.kind given))) (sym is.path)
          (answer_as s.env s.term (Extracted term p) is.kind given (record {
            plain = λ ty h. (kind return_kind.Plain h.0, same (ty ∷ []) h.1);
            tuple = λ tys h. (kind return_kind.Plain h.1, same tys h.2);
            option = λ tys h. (kind return_kind.Option h.0, same tys h.1);
            list = λ tys h. (kind return_kind.Iterator h.0, same tys h.1);
          }));
    }
let_holds s bound locals b (Some (binding.MatchSome source)) names l is =
    let here = found bound source.0 is.bound' in
    record {
      h = holds.One (items s.env is.tys);
      is = rw here (ap inner_holds ((l.by source here).option is.tys is.option));
      kept = subst (λ q. HoldsAs s.env s.term q (Some (holds.One (items s.env is.tys)))) (sym is.path) (within_holds s (at (paths_in s) source) is.tys is.option);
    }
let_holds s bound locals b (Some (binding.MatchTuple source field)) names l is =
    let here = found bound source.0 is.bound' in
    record {
      h = holds.One item.Value;
      is = rw here (ap (part_holds field.0) ((l.by source here).tuple is.tys is.tuple) ∙ part_there s.env field.0 is.tys is.ty (tuple_many s.env s.term (at (paths_in s) source) is.tys is.tuple) is.there);
      kept = subst (λ q. HoldsAs s.env s.term q one_value) (sym is.path) (record { value = λ ty h. refl; tuple = λ tys h. absurd h; option = λ tys h. absurd h; list = λ tys h. absurd h });
    }
let_holds s bound locals b (Some (binding.Argument index)) names l is = let k = plain_let s bound locals b is in record { h = holds.One item.Value; is = k.0; kept = k.1 }
let_holds s bound locals b (Some (binding.ConstBool val ty)) names l is = let k = plain_let s bound locals b is in record { h = holds.One item.Value; is = k.0; kept = k.1 }
let_holds s bound locals b (Some (binding.ConstInt val ty)) names l is = let k = plain_let s bound locals b is in record { h = holds.One item.Value; is = k.0; kept = k.1 }
let_holds s bound locals b (Some (binding.ConstPrim val)) names l is = let k = plain_let s bound locals b is in record { h = holds.One item.Value; is = k.0; kept = k.1 }
let_holds s bound locals b (Some (binding.MakeVariant of variant fields)) names l is = record {
  h = holds.One item.Value;
  is = made_let s bound locals (at (paths_in s) b) _ (MakesVariant of variant) fields l is;
  kept = subst (λ q. HoldsAs s.env s.term q one_value) (sym is.path) (record { value = λ ty h. refl; tuple = λ tys h. absurd h; option = λ tys h. absurd h; list = λ tys h. absurd h });
}
let_holds s bound locals b (Some (binding.MakeStruct of fields)) names l is = record {
  h = holds.One item.Value;
  is = made_let s bound locals (at (paths_in s) b) _ (MakesStruct of) fields l is;
  kept = subst (λ q. HoldsAs s.env s.term q one_value) (sym is.path) (record { value = λ ty h. refl; tuple = λ tys h. absurd h; option = λ tys h. absurd h; list = λ tys h. absurd h });
}
let_holds s bound locals b o names l is = absurd is

-- so the statement is in scope, and its local is bound after it
stmt_scoped : (fns : Callables) (of : ReturnKind) (params : ℕ) (locals : Locals) (often : Bool) (n : ℕ) (e : TExpr) → IsSome (stmt_holds fns params locals (local_stmt often n e)) → IsStmtScoped fns of params locals (local_stmt often n e)
stmt_scoped fns of params locals often n e = local_by (λ st. IsSome (stmt_holds fns params locals st) → IsStmtScoped fns of params locals st) often n e (λ h. h) (λ borrow call is h. h)

stmt_after : (fns : Callables) (params : ℕ) (locals : Locals) (often : Bool) (n : ℕ) (e : TExpr) → bound_after fns params (local_stmt often n e) locals ≡ after_let (stmt_holds fns params locals (local_stmt often n e)) n locals
stmt_after fns params locals often n e = local_by (λ st. bound_after fns params st locals ≡ after_let (stmt_holds fns params locals st) n locals) often n e refl (λ borrow call is. refl)

pub lets_scoped : (s : Setting) (bound : List ℕ) (locals : Locals) (binds : List BindingId) (more : Body) → HasCallees s.env → LocalsHold s bound locals → AreReadyBinds s bound binds
    → ((after : Locals) → LocalsHold s (bound_by bound binds) after → IsBodyScoped (callables_of s.env) (kind_of s.term.kind) (length s.term.arg_tys) after more)
    → IsBodyScoped (callables_of s.env) (kind_of s.term.kind) (length s.term.arg_tys) locals (lets s bound binds more)
lets_scoped s bound locals [] more names l k h = h locals l
lets_scoped s bound locals (b ∷ binds) more names l k h =
    let x = let_holds s bound locals b (slice_get s.bindings b.0) names l k.0 in
    let rest = lets_scoped s (bound ++ b.0 ∷ []) (locals ++ (b.0, x.h) ∷ []) binds more names (more_hold s bound locals b x.h l x.kept) k.1 h in (
      stmt_scoped (callables_of s.env) (kind_of s.term.kind) (length s.term.arg_tys) locals (binds_list s b) b.0 (bound_expr s bound b (slice_get s.bindings b.0)) (subst IsSome (sym x.is) refl),
      subst (λ ls. IsBodyScoped (callables_of s.env) (kind_of s.term.kind) (length s.term.arg_tys) ls (lets s (bound ++ b.0 ∷ []) binds more))
          (sym (stmt_after (callables_of s.env) (length s.term.arg_tys) locals (binds_list s b) b.0 (bound_expr s bound b (slice_get s.bindings b.0)) ∙ ap (λ o. after_let o b.0 locals) x.is)) rest,
    )
