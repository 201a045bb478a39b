-- The statements of a lawful block call what its bindings call.
use Rattle.std.proofs.Common.{◌≡◌, ⊎_elim, ◌⊎◌, inl, inr, ℕ, List, [], ◌∷◌, Bool, true, false, cond, Option, Some, None, refl, ap, ◌∙◌, subst, sym}
use Rattle.std.specs.Prelude.{Contains, slice_get}
use Rattle.std.specs.List.{AllByRecursion}
use Rattle.isle_core.specs.declared.options.CodegenOptions.{CodegenOptions}
use Rattle.isle_core.specs.declared.BindingId.{BindingId}
use Rattle.isle_core.specs.declared.Sym.{Sym}
use Rattle.isle_core.specs.declared.TermId.{TermId}
use Rattle.isle_core.specs.declared.types.ReturnKind.{ReturnKind}
use Rattle.isle_core.specs.declared.types.ReturnKind.TheVariants as return_kind
use Rattle.isle_core.specs.declared.types.Term.{Term}
use Rattle.isle_core.specs.declared.files.Files.{Files}
use Rattle.isle_core.specs.declared.rule_sets.Binding.{Binding}
use Rattle.isle_core.specs.declared.rule_sets.Binding.TheVariants as binding
use Rattle.isle_core.specs.declared.rule_sets.Constraint.{Constraint}
use Rattle.isle_core.specs.declared.rule_sets.Constraint.TheVariants as constraint
use Rattle.isle_core.specs.declared.values.Callee.{Callee}
use Rattle.isle_core.specs.Block.{Block}
use Rattle.isle_core.specs.BlockLawful.{IsLawfulBlock}
use Rattle.isle_core.specs.Calling.{calling, extracting, kind_of}
use Rattle.isle_core.specs.Form.{Form, form}
use Rattle.isle_core.specs.Making.{MakesVariant, MakesStruct}
use Rattle.isle_core.specs.Path.{at}
use Rattle.isle_core.specs.Rule.{Environment}
use Rattle.isle_core.specs.Setting.{Setting, setting, paths_in}
use Rattle.isle_core.proofs.AllLaws.{all_by, all_each}
use Rattle.isle_core.proofs.Contained.{contained_cases, none_contained}
use Rattle.isle_tree.specs.Calls.{expr_calls, own_calls, stmt_calls, body_calls}
use Rattle.isle_tree.specs.Program.{Body, Done}
use Rattle.isle_tree.specs.declared.tree.Read.{Read}
use Rattle.isle_simulation.specs.Completed.{completed}
use Rattle.isle_simulation.specs.Statements.{callee_of as callee_made_of, made_named, binds_list, local_stmt}
use Rattle.isle_simulation.specs.Manner.{bare_manner}
use Rattle.isle_simulation.specs.TermFunction.{mark_in, tail_body, tail_in, ends_in_return, log_lines}
use Rattle.isle_simulation.proofs.CompletedReady.{completed_ready}
use Rattle.isle_simulation.proofs.Made.{callee_made, extractor_made}
use Rattle.isle_simulation.proofs.MadeStatements.{EachMade, Anything, any_tested, block_holds}
use Rattle.isle_simulation.proofs.Ready.{IsReadyBind}
use Rattle.isle_simulation.proofs.Written.{arm_stmt, block_body, bound_expr, bound_stmt, callee_of, call_expr, extraction_expr, made_expr, result_stmt, written_read, written_body, logged_function}
use Rattle.isle_simulation.proofs.Closed.{Closes}
use Rattle.isle_simulation.proofs.ClosedLaws.{IsOpen, closed_of}
use Rattle.isle_simulation.proofs.LoggedLaws.{IsOwn, logged_of}
use Rattle.isle_tree.specs.declared.tree.TExpr.{TExpr}
use Rattle.isle_simulation.proofs.LocalStmts.{local_by}

-- the callee is that of a call of a constructor among the bindings
pub record IsConstructorCall (env : Environment) (bs : List Binding) (callee : Callee) : Type 0 where
  pub place : ℕ
  pub term : TermId
  pub parameters : List BindingId
  pub instance : ℕ
  pub bound : slice_get bs place ≡ Some (binding.Constructor term parameters instance)
  pub is : callee_made_of (calling env term) ≡ Some callee

-- the callee is that of a call of an extractor among them
pub record IsExtractorCall (env : Environment) (bs : List Binding) (callee : Callee) : Type 0 where
  pub place : ℕ
  pub term : TermId
  pub parameter : BindingId
  pub bound : slice_get bs place ≡ Some (binding.Extractor term parameter)
  pub is : callee_made_of (extracting env term) ≡ Some callee

-- the callee is that of a call among the bindings
abbrev pub IsBoundCall : Environment → List Binding → Callee → Type 0
IsBoundCall env bs callee = IsConstructorCall env bs callee ⊎ IsExtractorCall env bs callee

-- nothing is called
not_called : {A : Type 0} (callee : Callee) → Contains [] callee → A
not_called callee c = absurd (none_contained callee c)

-- a made value calls nothing
named_calls : (env : Environment) (ty : Sym) (variant : Option Sym) (fs : List (List ℕ × Read)) → expr_calls (made_named env ty variant fs) ≡ []
named_calls env ty (Some variant) fs = refl
named_calls env ty None [] = refl
named_calls env ty None (f ∷ fs) = refl

made_calls : (s : Setting) (bound : List ℕ) (o : Option Form) (parts : List BindingId) → expr_calls (made_expr s bound o parts) ≡ []
made_calls s bound None parts = refl
made_calls s bound (Some f) parts = named_calls s.env f.ty f.variant _

call_calls : (s : Setting) (bound : List ℕ) (o : Option Term) (callee : Callee) (parameters : List BindingId) → expr_calls (call_expr s bound o callee parameters) ≡ callee ∷ []
call_calls s bound None callee parameters = refl
call_calls s bound (Some t) callee parameters = refl

extraction_calls : (s : Setting) (bound : List ℕ) (o : Option Term) (callee : Callee) (parameter : BindingId) → expr_calls (extraction_expr s bound o callee parameter) ≡ callee ∷ []
extraction_calls s bound None callee parameter = refl
extraction_calls s bound (Some t) callee parameter = refl

-- what is computed for a binding that may be bound
bound_call : (s : Setting) (bound : List ℕ) (b : BindingId) (o : Option Binding) (callee : Callee) → slice_get s.bindings b.0 ≡ o → IsReadyBind s bound (at (paths_in s) b) o → Contains (expr_calls (bound_expr s bound b o)) callee → IsBoundCall s.env s.bindings callee
bound_call s bound b (Some (binding.Constructor term parameters k)) callee e is c =
    ⊎_elim
    (λ same. inl (record { place = b.0; term = term; parameters = parameters; instance = k; bound = e; is = callee_made is.kind (calling s.env term) is.external ∙ ap Some same }))
    (λ none. not_called callee none)
    (contained_cases (callee_of (calling s.env term)) [] callee (subst (λ xs. Contains xs callee) (call_calls s bound (slice_get s.env.terms term.0) (callee_of (calling s.env term)) parameters) c))
bound_call s bound b (Some (binding.Extractor term parameter)) callee e is c =
    ⊎_elim
    (λ same. inr (record { place = b.0; term = term; parameter = parameter; bound = e; is = extractor_made is.kind (extracting s.env term) is.external ∙ ap Some same }))
    (λ none. not_called callee none)
    (contained_cases (callee_of (extracting s.env term)) [] callee (subst (λ xs. Contains xs callee) (extraction_calls s bound (slice_get s.env.terms term.0) (callee_of (extracting s.env term)) parameter) c))
bound_call s bound b (Some (binding.MatchSome source)) callee e is c = not_called callee c
bound_call s bound b (Some (binding.MatchTuple source field)) callee e is c = not_called callee c
bound_call s bound b (Some (binding.Argument index)) callee e is c = not_called callee c
bound_call s bound b (Some (binding.ConstBool val ty)) callee e is c = not_called callee c
bound_call s bound b (Some (binding.ConstInt val ty)) callee e is c = not_called callee c
bound_call s bound b (Some (binding.ConstPrim val)) callee e is c = not_called callee c
bound_call s bound b (Some (binding.MakeVariant ty variant fields)) callee e is c = not_called callee (subst (λ xs. Contains xs callee) (made_calls s bound (form s.env (MakesVariant ty variant)) fields) c)
bound_call s bound b (Some (binding.MakeStruct ty fields)) callee e is c = not_called callee (subst (λ xs. Contains xs callee) (made_calls s bound (form s.env (MakesStruct ty)) fields) c)
bound_call s bound b o callee e is c = absurd is

local_calls : (often : Bool) (n : ℕ) (e : TExpr) → stmt_calls (local_stmt often n e) ≡ expr_calls e
local_calls often n e = local_by (λ st. stmt_calls st ≡ expr_calls e) often n e refl (λ borrow call is. ap expr_calls (sym is))

-- each statement that emission makes calls what the bindings call
calls_made : (s : Setting) → EachMade own_calls (IsBoundCall s.env s.bindings) s Anything
calls_made s = record {
  bound = bound_calls;
  result = λ locals result h. result_calls (kind_of s.term.kind) (written_read s locals false result);
  stop = λ inside limit. tt;
  split = λ inside within. tt;
  log = λ line. tt;
  equal = λ locals a b ty inside h k. tt;
  arm = λ locals source over c places inside h is k w. arm_calls locals source c places inside;
  several = λ locals source over c arms h is k. tt;
  loop = λ list item inside. tt;
}
  where
    bound_calls : (locals : List ℕ) (b : BindingId) → IsReadyBind s locals (at (paths_in s) b) (slice_get s.bindings b.0) → AllByRecursion (IsBoundCall s.env s.bindings) (stmt_calls (bound_stmt s locals b))
    bound_calls locals b h =
        let e = bound_expr s locals b (slice_get s.bindings b.0) in
        subst (AllByRecursion (IsBoundCall s.env s.bindings)) (sym (local_calls (binds_list s b) b.0 e))
        (all_by (IsBoundCall s.env s.bindings) (expr_calls e) (λ callee c. bound_call s locals b (slice_get s.bindings b.0) callee refl h c))

    result_calls : (kind : ReturnKind) (r : Read) → AllByRecursion (IsBoundCall s.env s.bindings) (stmt_calls (result_stmt kind r))
    result_calls return_kind.Plain r = tt
    result_calls return_kind.Option r = tt
    result_calls return_kind.Iterator r = tt

    arm_calls : (locals : List ℕ) (source : BindingId) (c : Constraint) (places : List (Option BindingId)) (inside : Body) → AllByRecursion (IsBoundCall s.env s.bindings) (own_calls (arm_stmt s locals source c places inside))
    arm_calls locals source (constraint.ConstBool val) places inside = tt
    arm_calls locals source (constraint.ConstInt val ty) places inside = tt
    arm_calls locals source (constraint.ConstPrim val) places inside = tt
    arm_calls locals source (constraint.Variant ty variant) places inside = tt
    arm_calls locals source (constraint.Struct ty) places inside = tt
    arm_calls locals source constraint.Some places inside = tt

tail_calls : (P : Callee → Type 0) (mark : Option (Option (List ℕ × List ℕ))) (x : Bool) → AllByRecursion P (body_calls (cond x Done (tail_body mark)))
tail_calls P mark true = tt
tail_calls P None false = tt
tail_calls P (Some mark) false = tt

calls_own : IsOwn own_calls
calls_own = record { if_eq = λ a b x y. refl; if_let = λ pat r x y. refl; arms = λ r x y. refl; loop = λ list item x y. refl; split = λ within x y. refl; log = λ term place. refl }

calls_open : IsOpen own_calls
calls_open = record { if_eq = λ a b x y. refl; if_let = λ pat r x y. refl; arms = λ r x y. refl; loop = λ list item x y. refl; split = λ b inside. refl; stop = λ inside limit. refl }

-- each call of a term's function is among the bindings of its block
pub written_calls : (options : CodegenOptions) (files : Files) (env : Environment) (t : Term) (bs : List Binding) (b : Block) (callee : Callee) → IsLawfulBlock (setting env t bs) b
    → (written : Body) → Closes (kind_of t.kind) false (logged_function options files env t bs b).body written → Contains (body_calls written) callee → IsBoundCall env bs callee
written_calls options files env t bs b callee h written closes c =
    let s = setting env t bs in
    let d = completed s [] b in
    let end = tail_in files env t b in
    all_each (IsBoundCall env bs) (body_calls (block_body options.max_returns s [] d end)) callee
    (block_holds own_calls (IsBoundCall env bs) s Anything (calls_made s) (bare_manner options.max_returns) d [] [] end (completed_ready s b h) (any_tested d) (tail_calls (IsBoundCall env bs) (mark_in files env t) (ends_in_return b)))
    (subst (λ cs. Contains cs callee) (closed_of (kind_of t.kind) own_calls calls_open closes ∙ logged_of own_calls calls_own (written_body options files env t bs b) (log_lines options files s b)) c)
