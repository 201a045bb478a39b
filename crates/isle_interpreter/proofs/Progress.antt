-- A well-formed function, with arguments and answers that fit, has a run, which ends as the function's kind does.
use Rattle.std.proofs.Common.{◌≡◌, ℕ, List, [], ◌∷◌, ◌++◌, length, Bool, true, false, Option, Some, None, refl, sym, ap, subst}
use Rattle.std.specs.Prelude.{if◌then◌else◌, IsSome}
use Rattle.isle_core.specs.declared.types.ReturnKind.{ReturnKind}
use Rattle.isle_core.specs.declared.types.ReturnKind.TheVariants as kind
use Rattle.isle_core.specs.Value.{Value, Variant, Struct, End, GivesSome, Ran}
use Rattle.isle_core.specs.Answered.{AValue, ATuple, Held, Absent, One, Optional, Listed, a_value, an_option}
use Rattle.isle_tree.specs.declared.holds.Holds.{Holds}
use Rattle.isle_tree.specs.declared.holds.Holds.TheVariants as holds
use Rattle.isle_tree.specs.declared.holds.Item.TheVariants as item
use Rattle.isle_tree.specs.declared.tree.TExpr.{TExpr}
use Rattle.isle_tree.specs.declared.tree.TExpr.TheVariants as expr
use Rattle.isle_tree.specs.Program.{Stmt, Let, LetList, IfEq, IfLet, Match, Loop, Return, Extend, Overflow, Log, Split, Tail, Body, Done, Then, Arms, NoArm, Arm}
use Rattle.isle_tree.specs.WellFormed.{Locals, Callables, IsExpr, IsStmt, IsBody, AreArms, local_holds, operand_holds, read_holds, is_value, are_field_values, made_holds, pattern_locals, each_holds, called_holds, expr_holds, GivesKind, after_let, bound_after, IsStmtScoped, IsBodyScoped, AreArmsScoped, FitsLet, IsReturned, FitsStmt, FitsBody, FitsArms, FitsTail, FitsLast, FitsEnding, FitsFunction}
use Rattle.isle_tree.specs.Caller.{by_meaning}
use Rattle.isle_tree.specs.Run.{Around, State, one_given, Env, Flow, Goes, Ends, Leaves, Stuck, look, bind, value_of, read_value, read_fields, fit, run_variant, run_struct, on_value, then_run, run_let, ends_with, run_return, is_full, tail_end, run_stmt, run_body, run_arms, ended}
use Rattle.isle_tree.specs.Calls.{expr_calls, stmt_calls, body_calls, arms_calls}
use Rattle.isle_interpreter.specs.Ends.{EndFits}
use Rattle.isle_interpreter.proofs.AnswersHold.{HoldsIn}
use Rattle.isle_interpreter.proofs.LocalsHold.{Agree, HoldsIfKnown, known_local, one_more, known_operand, known_read, known_value, told_fields, bound_pattern}
use Rattle.isle_interpreter.proofs.WellFlows.{Answering, once_is, list_is, front_answering, rest_answering, Well, NotStuck, well_fitted, well_known, well_try, well_part, well_call, then_well, well_test, well_loop, well_stop, well_closure}

-- ---- returns

no_gift : (of : ReturnKind) → GivesKind of None → ⊥
no_gift kind.Plain g = g
no_gift kind.Option g = g
no_gift kind.Iterator g = g

-- the function ends as its kind does
pub record DoesEnd (of : ReturnKind) (flow : Flow) : Type 0 where
  pub end : End
  pub left : State
  pub is : flow ≡ Ends end left
  pub fits : EndFits of end

ends_value : (g : Held) (st : State) → HoldsIn (holds.One item.Value) g → DoesEnd kind.Plain (ends_with g st)
ends_value (One (AValue v)) st k = record { end = _; left = _; is = refl; fits = tt }
ends_value (One (ATuple vs)) st k = absurd k
ends_value (Optional o) st k = absurd k
ends_value (Listed is) st k = absurd k
ends_value Absent st k = absurd k

ends_option : (g : Held) (st : State) → HoldsIn (holds.Optional item.Value) g → DoesEnd kind.Option (ends_with g st)
ends_option (Optional (Some (AValue v))) st k = record { end = _; left = _; is = refl; fits = tt }
ends_option (Optional (Some (ATuple vs))) st k = absurd k
ends_option (Optional None) st k = record { end = _; left = _; is = refl; fits = tt }
ends_option (One i) st k = absurd k
ends_option (Listed is) st k = absurd k
ends_option Absent st k = absurd k

ends_known : (of : ReturnKind) (o : Option Holds) (g : Held) (st : State) → GivesKind of o → HoldsIfKnown o g → DoesEnd of (ends_with g st)
ends_known kind.Plain None g st k t = absurd k
ends_known kind.Plain (Some (holds.One item.Value)) g st k t = ends_value g st t
ends_known kind.Plain (Some (holds.One (item.Tuple count))) g st k t = absurd k
ends_known kind.Plain (Some (holds.Optional x)) g st k t = absurd k
ends_known kind.Plain (Some (holds.Several x)) g st k t = absurd k
ends_known kind.Option None g st k t = absurd k
ends_known kind.Option (Some (holds.One x)) g st k t = absurd k
ends_known kind.Option (Some (holds.Optional item.Value)) g st k t = ends_option g st t
ends_known kind.Option (Some (holds.Optional (item.Tuple count))) g st k t = absurd k
ends_known kind.Option (Some (holds.Several x)) g st k t = absurd k
ends_known kind.Iterator None g st k t = absurd k
ends_known kind.Iterator (Some (holds.One x)) g st k t = absurd k
ends_known kind.Iterator (Some (holds.Optional x)) g st k t = absurd k
ends_known kind.Iterator (Some (holds.Several x)) g st k t = absurd k

option_fits : (of : ReturnKind) (v : Value) → GivesKind of (Some (holds.Optional item.Value)) → EndFits of (GivesSome v)
option_fits kind.Plain v g = absurd g
option_fits kind.Option v g = tt
option_fits kind.Iterator v g = absurd g

well_return : (of : ReturnKind) (fns : Callables) (w : Around) (e : TExpr) (bound : Locals) (env : Env) (st : State) → IsExpr e → GivesKind of (expr_holds fns (length w.args) bound e) → IsReturned e → Agree bound env → DoesEnd of (run_return w e env st)
well_return of fns w (expr.Read r) bound env st is gives fits a = ends_known of (read_holds (length w.args) bound r) (read_value w env r) st gives (known_read w bound env r is a)
well_return of fns w (expr.Some r) bound env st is gives fits a = by (is_value (read_holds (length w.args) bound r)) refl gives
  where
    by : (b : Bool) → is_value (read_holds (length w.args) bound r) ≡ b → GivesKind of (if b then Some (holds.Optional item.Value) else None) → DoesEnd of (on_value (read_value w env r) (λ v. Ends (GivesSome v) st))
    by true f g =
        let one = known_value (read_holds (length w.args) bound r) (read_value w env r) (known_read w bound env r is a) f in
        record { end = GivesSome one.v; left = st; is = ap (λ x. on_value x (λ v. Ends (GivesSome v) st)) one.is; fits = option_fits of one.v g }
    by false f g = absurd (no_gift of g)
well_return of fns w (expr.Call borrow call) bound env st is gives fits a = absurd fits
well_return of fns w (expr.Try source as_ref) bound env st is gives fits a = absurd fits
well_return of fns w (expr.Variant ty variant fields) bound env st is gives fits a = absurd fits
well_return of fns w (expr.Struct ty fields) bound env st is gives fits a = absurd fits
well_return of fns w (expr.Tuple o i) bound env st is gives fits a = absurd fits

-- ---- statements

module _ (of : ReturnKind) (fns : Callables) (w : Around) (asks : w.caller ≡ by_meaning w.meaning) where
  well_let : (closed : Bool) (n : ℕ) (e : TExpr) (bound : Locals) (env : Env) (st : State) → IsExpr e → IsSome (expr_holds fns (length w.args) bound e) → FitsLet of e → Answering fns w.meaning (expr_calls e) → Agree bound env
      → Well of closed (after_let (expr_holds fns (length w.args) bound e) n bound) (run_let w n e env st)
  well_let closed n (expr.Read r) bound env st is some fits answering a = well_known of closed n (read_holds (length w.args) bound r) (read_value w env r) bound env st a some (known_read w bound env r is a)
  well_let closed n (expr.Call borrow call) bound env st is some fits answering a =
      let called = called_holds fns (length w.args) bound call in
      let same = once_is called some in
      subst (λ o. Well of closed (after_let o n bound) (run_let w n (expr.Call borrow call) env st)) (sym same) (well_call of closed fns w n call bound env st asks is.args a answering called refl (subst IsSome same some))
  well_let closed n (expr.Some r) bound env st is some fits answering a = by (is_value (read_holds (length w.args) bound r)) refl some
    where
      by : (b : Bool) → is_value (read_holds (length w.args) bound r) ≡ b → IsSome (if b then Some (holds.Optional item.Value) else None) → Well of closed (after_let (if b then Some (holds.Optional item.Value) else None) n bound) (on_value (read_value w env r) (λ v. Goes (bind env n (an_option (Some v))) st))
      by true f g =
          let one = known_value (read_holds (length w.args) bound r) (read_value w env r) (known_read w bound env r is a) f in
          subst (λ x. Well of closed (bound ++ (n, holds.Optional item.Value) ∷ []) (on_value x (λ v. Goes (bind env n (an_option (Some v))) st))) (sym one.is) (one_more bound env n (holds.Optional item.Value) (an_option (Some one.v)) a tt)
      by false f g = absurd cc
  well_let closed n (expr.Try source as_ref) bound env st is some fits answering a = well_try of closed n (operand_holds (length w.args) bound source) (value_of w env source) bound env st a some (known_operand w bound env source is a) fits
  well_let closed n (expr.Variant ty variant fields) bound env st is some fits answering a = by (are_field_values (length w.args) bound fields) refl some
    where
      by : (b : Bool) → are_field_values (length w.args) bound fields ≡ b → IsSome (made_holds b) → Well of closed (after_let (made_holds b) n bound) (run_variant n ty variant (read_fields w env fields) env st)
      by true f g =
          let have = told_fields w bound env fields is.2 a f in
          subst (λ o. Well of closed (bound ++ (n, holds.One item.Value) ∷ []) (run_variant n ty variant o env st)) (sym have.are) (one_more bound env n (holds.One item.Value) (a_value (Variant ty variant have.fs)) a tt)
      by false f g = absurd cc
  well_let closed n (expr.Struct ty fields) bound env st is some fits answering a = by (are_field_values (length w.args) bound fields) refl some
    where
      by : (b : Bool) → are_field_values (length w.args) bound fields ≡ b → IsSome (made_holds b) → Well of closed (after_let (made_holds b) n bound) (run_struct n ty (read_fields w env fields) env st)
      by true f g =
          let have = told_fields w bound env fields is.2 a f in
          subst (λ o. Well of closed (bound ++ (n, holds.One item.Value) ∷ []) (run_struct n ty o env st)) (sym have.are) (one_more bound env n (holds.One item.Value) (a_value (Struct ty have.fs)) a tt)
      by false f g = absurd cc
  well_let closed n (expr.Tuple source part) bound env st is some fits answering a = well_part of closed n part (operand_holds (length w.args) bound source) (value_of w env source) bound env st a some (known_operand w bound env source is a)

  well_end : (closed : Bool) (bound : Locals) (flow : Flow) → DoesEnd of flow → Well of closed bound flow
  well_end closed bound flow e = subst (Well of closed bound) (sym e.is) e.fits

  mutual
    pub well_stmt : (closed : Bool) (s : Stmt) (bound : Locals) (env : Env) (st : State) → IsStmt s → IsStmtScoped fns of (length w.args) bound s → FitsStmt of closed s → Answering fns w.meaning (stmt_calls s) → Agree bound env
        → Well of closed (bound_after fns (length w.args) s bound) (run_stmt w s env st)
    well_stmt closed (Let n e) bound env st is there fits answering a = well_let closed n e bound env st is there fits answering a
    well_stmt closed (IfEq l r inside) bound env st is there fits answering a =
        well_test of closed bound env st (value_of w env l) (value_of w env r) (run_body w inside env st) a
        (known_value (operand_holds (length w.args) bound l) (value_of w env l) (known_operand w bound env l is.0 a) there.0)
        (known_value (operand_holds (length w.args) bound r) (value_of w env r) (known_operand w bound env r is.1 a) there.1)
        (well_body closed inside bound env st is.2 there.2 fits answering a)
    well_stmt closed (Return e) bound env st is there fits answering a = well_end closed bound (run_return w e env st) (well_return of fns w e bound env st is there fits a)
    well_stmt closed (Tail texts) bound env st is there fits answering a = absurd fits
    well_stmt closed (LetList n call) bound env st is there fits answering a =
        let called = called_holds fns (length w.args) bound call in
        let same = list_is called there in
        subst (λ o. Well of closed (after_let o n bound) (run_stmt w (LetList n call) env st)) (sym same) (well_call of closed fns w n call bound env st asks is.args a answering called refl (subst IsSome same there))
    well_stmt closed (IfLet pat r inside) bound env st is there fits answering a =
        let ls = pattern_locals pat (read_holds (length w.args) bound r) in
        well_fitted of closed bound ls env (fit w pat (read_value w env r)) (λ inner. run_body w inside inner st) (Goes env st) a
        (bound_pattern w pat (read_holds (length w.args) bound r) (read_value w env r) there.0 (known_read w bound env r is.1 a))
        (λ inner k. well_body closed inside (bound ++ ls) inner st is.2 there.1 fits answering k)
        a
    well_stmt closed (Match r arms) bound env st is there fits answering a =
        well_arms closed arms bound (read_holds (length w.args) bound r) (read_value w env r) env st is.2 there fits answering (known_read w bound env r is.0 a) a
    well_stmt closed (Loop list n inside) bound env st is there fits answering a =
        well_loop of closed n (run_body w inside) (local_holds bound list) (look env list) bound env st a there.0 (known_local list bound env a)
        (λ inner t k. well_body closed inside (after_let (each_holds (local_holds bound list)) n bound) inner t is there.1 fits answering k)
    well_stmt closed (Extend r) bound env st is there fits answering a =
        let one = known_value (read_holds (length w.args) bound r) (read_value w env r) (known_read w bound env r is a) there in
        subst (λ x. Well of closed bound (on_value x (λ v. Goes env (one_given st v)))) (sym one.is) a
    well_stmt closed (Overflow within limit) bound env st is there fits answering a = well_stop of closed within (is_full w.held limit st.given) bound env st a fits.0 fits.1
    well_stmt closed (Log term place) bound env st is there fits answering a = a
    well_stmt closed (Split inside within) bound env st is there fits answering a =
        well_closure of closed within bound env (run_body w inside env st) a fits.0 fits.1 (well_body true inside bound env st is there fits.2 answering a)

    pub well_body : (closed : Bool) (b : Body) (bound : Locals) (env : Env) (st : State) → IsBody b → IsBodyScoped fns of (length w.args) bound b → FitsBody of closed b → Answering fns w.meaning (body_calls b) → Agree bound env
        → NotStuck of closed (run_body w b env st)
    well_body closed Done bound env st is there fits answering a = tt
    well_body closed (Then s ss) bound env st is there fits answering a =
        then_well of closed (bound_after fns (length w.args) s bound) (run_stmt w s env st) (run_body w ss)
        (well_stmt closed s bound env st is.0 there.0 fits.0 (front_answering fns w.meaning (stmt_calls s) (body_calls ss) answering) a)
        (λ inner t k. well_body closed ss (bound_after fns (length w.args) s bound) inner t is.1 there.1 fits.1 (rest_answering fns w.meaning (stmt_calls s) (body_calls ss) answering) k)

    -- the arms over what holds this
    well_arms : (closed : Bool) (arms : Arms) (bound : Locals) (o : Option Holds) (g : Held) (env : Env) (st : State) → AreArms arms → AreArmsScoped fns of (length w.args) bound o arms → FitsArms of closed arms → Answering fns w.meaning (arms_calls arms)
        → HoldsIfKnown o g → Agree bound env → Well of closed bound (run_arms w arms g env st)
    well_arms closed NoArm bound o g env st is there fits answering t a = a
    well_arms closed (Arm pat inside arms) bound o g env st is there fits answering t a =
        well_fitted of closed bound (pattern_locals pat o) env (fit w pat g) (λ inner. run_body w inside inner st) (run_arms w arms g env st) a (bound_pattern w pat o g there.0 t)
        (λ inner k. well_body closed inside (bound ++ pattern_locals pat o) inner st is.1 there.1 fits.0 (front_answering fns w.meaning (body_calls inside) (arms_calls arms) answering) k)
        (well_arms closed arms bound o g env st is.2 there.2 fits.1 (rest_answering fns w.meaning (body_calls inside) (arms_calls arms) answering) t a)

-- ---- functions end

-- there is an end of the function, as its kind has it
pub record HasEnd (of : ReturnKind) (flow : Flow) : Type 0 where
  pub ran : Ran
  pub is : ended of flow ≡ Some ran
  pub fits : EndFits of ran.end

module _ (fns : Callables) (w : Around) (asks : w.caller ≡ by_meaning w.meaning) where
  tail_fits : (of : ReturnKind) (texts : Option (List ℕ × List ℕ)) → FitsTail of texts → EndFits of (tail_end texts)
  tail_fits kind.Plain None fits = absurd fits
  tail_fits kind.Plain (Some texts) fits = tt
  tail_fits kind.Option None fits = tt
  tail_fits kind.Option (Some texts) fits = absurd fits
  tail_fits kind.Iterator None fits = absurd fits
  tail_fits kind.Iterator (Some texts) fits = absurd fits

  last_ends : (of : ReturnKind) (s : Stmt) (bound : Locals) (env : Env) (st : State) → IsStmt s → IsStmtScoped fns of (length w.args) bound s → FitsLast of s → Agree bound env → DoesEnd of (run_stmt w s env st)
  last_ends of (Return e) bound env st is there fits a = well_return of fns w e bound env st is there fits a
  last_ends of (Tail texts) bound env st is there fits a = record { end = _; left = _; is = refl; fits = tail_fits of texts fits }
  last_ends of (Let n e) bound env st is there fits a = absurd fits
  last_ends of (LetList n call) bound env st is there fits a = absurd fits
  last_ends of (IfEq l r inside) bound env st is there fits a = absurd fits
  last_ends of (IfLet pat r inside) bound env st is there fits a = absurd fits
  last_ends of (Match r arms) bound env st is there fits a = absurd fits
  last_ends of (Loop list n inside) bound env st is there fits a = absurd fits
  last_ends of (Extend r) bound env st is there fits a = absurd fits
  last_ends of (Overflow within limit) bound env st is there fits a = absurd fits
  last_ends of (Log term place) bound env st is there fits a = absurd fits
  last_ends of (Split inside within) bound env st is there fits a = absurd fits

  then_ends : (of : ReturnKind) (bound : Locals) (flow : Flow) (go : Env → State → Flow) → Well of false bound flow → ((env : Env) (st : State) → Agree bound env → DoesEnd of (go env st)) → DoesEnd of (then_run flow go)
  then_ends of bound (Goes env st) go h next = next env st h
  then_ends of bound (Ends end st) go h next = record { end = end; left = st; is = refl; fits = h }
  then_ends of bound (Leaves st) go h next = absurd cc
  then_ends of bound Stuck go h next = absurd h

  -- statements that end with one that is the function's last end it
  ending_ends : (of : ReturnKind) (b : Body) (bound : Locals) (env : Env) (st : State) → IsBody b → IsBodyScoped fns of (length w.args) bound b → FitsEnding of b → Answering fns w.meaning (body_calls b) → Agree bound env
      → DoesEnd of (run_body w b env st)
  ending_ends of Done bound env st is there fits answering a = absurd fits
  ending_ends of (Then s Done) bound env st is there fits answering a =
      let last = last_ends of s bound env st is.0 there.0 fits a in
      record { end = last.end; left = last.left; is = ap (λ flow. then_run flow (run_body w Done)) last.is; fits = last.fits }
  ending_ends of (Then s (Then t ss)) bound env st is there fits answering a =
      then_ends of (bound_after fns (length w.args) s bound) (run_stmt w s env st) (run_body w (Then t ss))
      (well_stmt of fns w asks false s bound env st is.0 there.0 fits.0 (front_answering fns w.meaning (stmt_calls s) (body_calls (Then t ss)) answering) a)
      (λ inner u k. ending_ends of (Then t ss) (bound_after fns (length w.args) s bound) inner u is.1 there.1 fits.1 (rest_answering fns w.meaning (stmt_calls s) (body_calls (Then t ss)) answering) k)

  does_end : (of : ReturnKind) (flow : Flow) → DoesEnd of flow → HasEnd of flow
  does_end of flow e = record { ran = record { end = e.end; calls = e.left.made }; is = ap (ended of) e.is; fits = e.fits }

  -- one with several results ends with their list
  list_ends : (flow : Flow) → NotStuck kind.Iterator false flow → HasEnd kind.Iterator flow
  list_ends (Goes env st) h = record { ran = _; is = refl; fits = tt }
  list_ends (Ends end st) h = record { ran = _; is = refl; fits = h }
  list_ends (Leaves st) h = absurd cc
  list_ends Stuck h = absurd h

  -- the statements of a function end it
  pub function_ends : (of : ReturnKind) (b : Body) (bound : Locals) (env : Env) (st : State) → IsBody b → IsBodyScoped fns of (length w.args) bound b → FitsFunction of b → Answering fns w.meaning (body_calls b) → Agree bound env
      → HasEnd of (run_body w b env st)
  function_ends kind.Plain b bound env st is there fits answering a = does_end kind.Plain (run_body w b env st) (ending_ends kind.Plain b bound env st is there fits answering a)
  function_ends kind.Option b bound env st is there fits answering a = does_end kind.Option (run_body w b env st) (ending_ends kind.Option b bound env st is there fits answering a)
  function_ends kind.Iterator b bound env st is there fits answering a = list_ends (run_body w b env st) (well_body kind.Iterator fns w asks false b bound env st is there fits answering a)
