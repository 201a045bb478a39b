-- A run of a body without loops makes no more calls of extractors and pure terms than stand in it.
use Rattle.std.proofs.Common.{◌≡◌, ℕ, ◌+◌, ◌≤◌, List, [], ◌∷◌, ◌++◌, Bool, true, false, cond, Option, Some, None, ap, subst, arith}
use Rattle.isle_core.specs.declared.types.ReturnKind.{ReturnKind}
use Rattle.isle_core.specs.declared.types.ReturnKind.TheVariants as kind
use Rattle.isle_core.specs.declared.values.Callee.{Callee}
use Rattle.isle_core.specs.Answered.{AValue, ATuple, Held, Absent, One, Optional, Listed, answer, answer_held}
use Rattle.isle_core.specs.Meaning.{Meaning}
use Rattle.isle_core.specs.Rule.{Environment}
use Rattle.isle_core.specs.SameInRun.{same_in_run}
use Rattle.isle_core.specs.Terms.{is_impure}
use Rattle.isle_core.specs.Value.{Value, FieldValues, Made, Ran}
use Rattle.isle_core.proofs.OptionLaws.{some_same}
use Rattle.isle_blocks.specs.AskedCalls.{if_pure}
use Rattle.isle_tree.specs.declared.tree.TExpr.{TExpr}
use Rattle.isle_tree.specs.declared.tree.TExpr.TheVariants as expr
use Rattle.isle_tree.specs.Calls.{expr_calls, stmt_calls, body_calls, arms_calls}
use Rattle.isle_tree.specs.Program.{Stmt, Let, LetList, IfEq, IfLet, Match, Loop, Return, Extend, Overflow, Log, Split, Tail, Body, Done, Then, Arms, NoArm, Arm, Function, Program}
use Rattle.isle_tree.specs.Run.{Around, State, Env, Flow, Goes, Ends, Leaves, Stuck, on_value, fit, fitted, then_run, after_scope, after_closure, read_value, value_of, read_values, run_bind, run_call, run_try, run_variant, run_struct, run_part, part_of, read_fields, run_let, ends_with, run_return, is_full, stops, run_stmt, run_body, run_arms, ended, around, held_run, nothing_done}
use Rattle.isle_codegen.specs.Asking.{asked_callees, asked_made, IsLoopFree, IsFreeStmt, AreFreeArms}

-- ---- calls

pub asked_append : (env : Environment) (xs ys : List Callee) → asked_callees env (xs ++ ys) ≡ asked_callees env xs + asked_callees env ys
asked_append env [] ys = omega arith
asked_append env (x ∷ xs) ys = let k = asked_append env xs ys in omega (arith, k)

-- one call more
asked_push : (env : Environment) (made : List Made) (c : Made) → asked_made env (made ++ c ∷ []) ≡ asked_made env made + if_pure (is_impure env c.callee)
asked_push env [] c = omega arith
asked_push env (x ∷ made) c = let k = asked_push env made c in omega (arith, k)

-- ---- flows

-- no more than so many are made where a flow goes on or ends
abbrev pub IsMost : Environment → ℕ → Flow → Type 0
IsMost env n (Goes e s) = asked_made env s.made ≤ n
IsMost env n (Ends end s) = asked_made env s.made ≤ n
IsMost env n (Leaves s) = asked_made env s.made ≤ n
IsMost env n Stuck = Unit {0}

module _ (env : Environment) where
  more_most : (m n : ℕ) (f : Flow) → m ≤ n → IsMost env m f → IsMost env n f
  more_most m n (Goes e s) le h = omega (arith, le, h)
  more_most m n (Ends end s) le h = omega (arith, le, h)
  more_most m n (Leaves s) le h = omega (arith, le, h)
  more_most m n Stuck le h = tt

  then_most : (m n : ℕ) (f : Flow) (go : Env → State → Flow) → m ≤ n → IsMost env m f → ((e : Env) (s : State) → asked_made env s.made ≤ m → IsMost env n (go e s)) → IsMost env n (then_run f go)
  then_most m n (Goes e s) go le h k = k e s h
  then_most m n (Ends end s) go le h k = omega (arith, le, h)
  then_most m n (Leaves s) go le h k = omega (arith, le, h)
  then_most m n Stuck go le h k = tt

  scope_most : (n : ℕ) (e : Env) (f : Flow) → IsMost env n f → IsMost env n (after_scope e f)
  scope_most n e (Goes inner s) h = h
  scope_most n e (Ends end s) h = h
  scope_most n e (Leaves s) h = h
  scope_most n e Stuck h = tt

  value_most : (n : ℕ) (h : Held) (go : Value → Flow) → ((v : Value) → IsMost env n (go v)) → IsMost env n (on_value h go)
  value_most n (One (AValue v)) go k = k v
  value_most n (One (ATuple vs)) go k = tt
  value_most n (Optional o) go k = tt
  value_most n (Listed is) go k = tt
  value_most n Absent go k = tt

  fitted_most : (n : ℕ) (o : Option Env) (go : Env → Flow) (other : Flow) → ((e : Env) → IsMost env n (go e)) → IsMost env n other → IsMost env n (fitted o go other)
  fitted_most n (Some e) go other k h = k e
  fitted_most n None go other k h = h

  bind_most : (n local : ℕ) (h : Held) (e : Env) (s : State) → asked_made env s.made ≤ n → IsMost env n (run_bind local h e s)
  bind_most n local (One i) e s k = k
  bind_most n local (Optional o) e s k = k
  bind_most n local (Listed is) e s k = k
  bind_most n local Absent e s k = tt

  try_most : (n local : ℕ) (h : Held) (e : Env) (s : State) → asked_made env s.made ≤ n → IsMost env n (run_try local h e s)
  try_most n local (Optional (Some i)) e s k = k
  try_most n local (Optional None) e s k = k
  try_most n local (One i) e s k = tt
  try_most n local (Listed is) e s k = tt
  try_most n local Absent e s k = tt

  variant_most : (n local : ℕ) (ty variant : List ℕ) (o : Option FieldValues) (e : Env) (s : State) → asked_made env s.made ≤ n → IsMost env n (run_variant local ty variant o e s)
  variant_most n local ty variant None e s k = tt
  variant_most n local ty variant (Some fs) e s k = k

  struct_most : (n local : ℕ) (ty : List ℕ) (o : Option FieldValues) (e : Env) (s : State) → asked_made env s.made ≤ n → IsMost env n (run_struct local ty o e s)
  struct_most n local ty None e s k = tt
  struct_most n local ty (Some fs) e s k = k

  part_most : (n local : ℕ) (o : Option Value) (e : Env) (s : State) → asked_made env s.made ≤ n → IsMost env n (run_part local o e s)
  part_most n local None e s k = tt
  part_most n local (Some v) e s k = k

  ends_most : (n : ℕ) (h : Held) (s : State) → asked_made env s.made ≤ n → IsMost env n (ends_with h s)
  ends_most n (One (AValue v)) s k = k
  ends_most n (One (ATuple vs)) s k = tt
  ends_most n (Optional (Some (AValue v))) s k = k
  ends_most n (Optional (Some (ATuple vs))) s k = tt
  ends_most n (Optional None) s k = k
  ends_most n (Listed is) s k = tt
  ends_most n Absent s k = tt

  stops_most : (n : ℕ) (within : Bool) (s : State) → asked_made env s.made ≤ n → IsMost env n (stops within s)
  stops_most n true s k = k
  stops_most n false s k = k

  closure_most : (n : ℕ) (within : Bool) (e : Env) (f : Flow) → IsMost env n f → IsMost env n (after_closure within e f)
  closure_most n within e (Goes inner s) h = h
  closure_most n within e (Ends end s) h = h
  closure_most n within e (Leaves s) h = stops_most n within s h
  closure_most n within e Stuck h = tt

  either_most : (n : ℕ) (b : Bool) (f g : Flow) → IsMost env n f → IsMost env n g → IsMost env n (cond b f g)
  either_most n true f g h k = h
  either_most n false f g h k = k

  -- ---- statements

  module _ (p : Program) (m : Meaning) (args : List Value) (held : Option ℕ) (of : Function) where
    abbrev w : Around
    w = around p m args held of

    call_most : (n local : ℕ) (callee : Callee) (vs : Option (List Value)) (e : Env) (s : State) → asked_made env s.made ≤ n → IsMost env (n + if_pure (is_impure env callee)) (run_call w local callee vs e s)
    call_most n local callee None e s k = tt
    call_most n local callee (Some vs) e s k =
        let c : Made = record { callee = callee; args = vs } in
        let push = asked_push env s.made c in
        bind_most (n + if_pure (is_impure env callee)) local (answer_held (answer m callee vs s.made)) e (record { made = s.made ++ c ∷ []; given = s.given }) (omega (arith, push, k))

    let_most : (n local : ℕ) (x : TExpr) (e : Env) (s : State) → asked_made env s.made ≤ n → IsMost env (n + asked_callees env (expr_calls x)) (run_let w local x e s)
    let_most n local (expr.Read r) e s k = bind_most (n + 0) local (read_value w e r) e s (omega (arith, k))
    let_most n local (expr.Some r) e s k = value_most (n + 0) (read_value w e r) _ (λ v. omega (arith, k))
    let_most n local (expr.Call borrow call) e s k = more_most (n + if_pure (is_impure env call.callee)) (n + (if_pure (is_impure env call.callee) + 0)) (run_call w local call.callee (read_values w e call.args) e s) (omega arith) (call_most n local call.callee (read_values w e call.args) e s k)
    let_most n local (expr.Try source as_ref) e s k = try_most (n + 0) local (value_of w e source) e s (omega (arith, k))
    let_most n local (expr.Variant ty variant fields) e s k = variant_most (n + 0) local ty variant (read_fields w e fields) e s (omega (arith, k))
    let_most n local (expr.Struct ty fields) e s k = struct_most (n + 0) local ty (read_fields w e fields) e s (omega (arith, k))
    let_most n local (expr.Tuple source part) e s k = part_most (n + 0) local (part_of part (value_of w e source)) e s (omega (arith, k))

    return_most : (n : ℕ) (x : TExpr) (e : Env) (s : State) → asked_made env s.made ≤ n → IsMost env n (run_return w x e s)
    return_most n (expr.Read r) e s k = ends_most n (read_value w e r) s k
    return_most n (expr.Some r) e s k = value_most n (read_value w e r) _ (λ v. k)
    return_most n (expr.Call borrow call) e s k = tt
    return_most n (expr.Try source as_ref) e s k = tt
    return_most n (expr.Variant ty variant fields) e s k = tt
    return_most n (expr.Struct ty fields) e s k = tt
    return_most n (expr.Tuple source part) e s k = tt

    mutual
      stmt_most : (t : Stmt) → IsFreeStmt t → (n : ℕ) (e : Env) (s : State) → asked_made env s.made ≤ n → IsMost env (n + asked_callees env (stmt_calls t)) (run_stmt w t e s)
      stmt_most (Let local x) free n e s k = let_most n local x e s k
      stmt_most (LetList local call) free n e s k = more_most (n + if_pure (is_impure env call.callee)) (n + (if_pure (is_impure env call.callee) + 0)) (run_call w local call.callee (read_values w e call.args) e s) (omega arith) (call_most n local call.callee (read_values w e call.args) e s k)
      stmt_most (IfEq a b inside) free n e s k = value_most (n + asked_callees env (body_calls inside)) (value_of w e a) _
          (λ v. value_most (n + asked_callees env (body_calls inside)) (value_of w e b) _
          (λ u. either_most (n + asked_callees env (body_calls inside)) (same_in_run v u) _ _ (scope_most (n + asked_callees env (body_calls inside)) e _ (body_most inside free n e s k)) (omega (arith, k))))
      stmt_most (IfLet pat r inside) free n e s k = fitted_most (n + asked_callees env (body_calls inside)) (fit w pat (read_value w e r)) _ (Goes e s)
          (λ bound. scope_most (n + asked_callees env (body_calls inside)) e _ (body_most inside free n (e ++ bound) s k)) (omega (arith, k))
      stmt_most (Match r arms) free n e s k = arms_most arms free (read_value w e r) n e s k
      stmt_most (Loop list item inside) free n e s k = absurd free
      stmt_most (Return x) free n e s k = more_most n (n + asked_callees env (expr_calls x)) (run_return w x e s) (omega arith) (return_most n x e s k)
      stmt_most (Extend r) free n e s k = value_most (n + 0) (read_value w e r) _ (λ v. omega (arith, k))
      stmt_most (Overflow within limit) free n e s k = either_most (n + 0) (is_full held limit s.given) _ _ (stops_most (n + 0) within s (omega (arith, k))) (omega (arith, k))
      stmt_most (Log term place) free n e s k = omega (arith, k)
      stmt_most (Split inside within) free n e s k = closure_most (n + asked_callees env (body_calls inside)) within e (run_body w inside e s) (body_most inside free n e s k)
      stmt_most (Tail mark) free n e s k = omega (arith, k)

      body_most : (b : Body) → IsLoopFree b → (n : ℕ) (e : Env) (s : State) → asked_made env s.made ≤ n → IsMost env (n + asked_callees env (body_calls b)) (run_body w b e s)
      body_most Done free n e s k = omega (arith, k)
      body_most (Then t ts) free n e s k =
          let sum = asked_append env (stmt_calls t) (body_calls ts) in
          then_most (n + asked_callees env (stmt_calls t)) (n + asked_callees env (stmt_calls t ++ body_calls ts)) (run_stmt w t e s) (run_body w ts) (omega (arith, sum)) (stmt_most t free.0 n e s k)
          (λ now then' j. more_most ((n + asked_callees env (stmt_calls t)) + asked_callees env (body_calls ts)) (n + asked_callees env (stmt_calls t ++ body_calls ts)) (run_body w ts now then') (omega (arith, sum)) (body_most ts free.1 (n + asked_callees env (stmt_calls t)) now then' j))

      arms_most : (arms : Arms) → AreFreeArms arms → (h : Held) (n : ℕ) (e : Env) (s : State) → asked_made env s.made ≤ n → IsMost env (n + asked_callees env (arms_calls arms)) (run_arms w arms h e s)
      arms_most NoArm free h n e s k = omega (arith, k)
      arms_most (Arm pat inside arms) free h n e s k =
          let sum = asked_append env (body_calls inside) (arms_calls arms) in
          let all = n + asked_callees env (body_calls inside ++ arms_calls arms) in
          fitted_most all (fit w pat h) _ (run_arms w arms h e s)
          (λ bound. scope_most all e _ (more_most (n + asked_callees env (body_calls inside)) all (run_body w inside (e ++ bound) s) (omega (arith, sum)) (body_most inside free.0 n (e ++ bound) s k)))
          (more_most (n + asked_callees env (arms_calls arms)) all (run_arms w arms h e s) (omega (arith, sum)) (arms_most arms free.1 h n e s k))

    -- ---- functions

    ended_most : (n : ℕ) (answers : ReturnKind) (f : Flow) (ran : Ran) → IsMost env n f → ended answers f ≡ Some ran → asked_made env ran.calls ≤ n
    ended_most n kind.Plain (Goes e s) ran h is = absurd cc
    ended_most n kind.Option (Goes e s) ran h is = absurd cc
    ended_most n kind.Iterator (Goes e s) ran h is = subst (λ calls. asked_made env calls ≤ n) (ap (λ (r : Ran). r.calls) (some_same _ ran is)) h
    ended_most n answers (Ends end s) ran h is = subst (λ calls. asked_made env calls ≤ n) (ap (λ (r : Ran). r.calls) (some_same _ ran is)) h
    ended_most n answers (Leaves s) ran h is = absurd cc
    ended_most n answers Stuck ran h is = absurd cc

  -- a run makes no more than the function has
  pub run_asks : (p : Program) (m : Meaning) (args : List Value) (held : Option ℕ) (f : Function) (ran : Ran) → IsLoopFree f.body → held_run p m args held f ≡ Some ran → asked_made env ran.calls ≤ asked_callees env (body_calls f.body)
  run_asks p m args held f ran free is =
      let most = ended_most p m args held f (0 + asked_callees env (body_calls f.body)) f.kind (run_body (around p m args held f) f.body [] nothing_done) ran (body_most p m args held f f.body free 0 [] nothing_done (omega arith)) is in
      omega (arith, most)
