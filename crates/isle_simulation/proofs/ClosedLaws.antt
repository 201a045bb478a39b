-- What closures leave as it was.
use Rattle.std.proofs.Common.{◌≡◌, ℕ, List, [], ◌∷◌, ◌++◌, Bool, true, false, cond, Option, Some, None, refl, ap, sym, subst, ◌∙◌}
use Rattle.std.proofs.lemmas.List.{append-nil}
use Rattle.isle_core.specs.Answered.{Item, Held, Absent, One, Optional, Listed, AValue, ATuple, an_option, answer_held}
use Rattle.isle_core.specs.SameInRun.{same_in_run}
use Rattle.isle_core.specs.Value.{Value, FieldValues, GivesSome, GivesList}
use Rattle.isle_core.specs.declared.types.ReturnKind.{ReturnKind}
use Rattle.isle_core.specs.declared.types.ReturnKind.TheVariants as kind
use Rattle.isle_tree.specs.Program.{Stmt, IfEq, IfLet, Match, Loop, Overflow, Split, Body, Done, Then, Arms, Arm}
use Rattle.isle_tree.specs.Run.{Around, State, one_given, Env, Flow, Goes, Ends, Leaves, Stuck, bind, look, value_of, read_value, read_values, read_fields, part_of, on_held, on_value, on_list, fit, fitted, is_full, stops, then_run, after_scope, after_closure, run_bind, run_called, run_call, run_try, run_variant, run_struct, run_part, run_let, ends_with, run_return, run_items, run_stmt, run_body, run_arms}
use Rattle.isle_tree.specs.Caller.{Called, Answered, Ended, Unanswered}
use Rattle.isle_tree.specs.declared.tree.TExpr.{TExpr}
use Rattle.isle_tree.specs.declared.tree.TExpr.TheVariants as expr
use Rattle.isle_core.specs.declared.values.Callee.{Callee}
use Rattle.isle_tree.specs.Walk.{of_stmt, of_body, of_arms}
use Rattle.isle_tree.specs.declared.holds.Holds.{Holds}
use Rattle.isle_tree.specs.WellFormed.{Callables, Locals, HasSeveral, IsStmt, IsBody, AreArms, IsStmtScoped, IsBodyScoped, AreArmsScoped, FitsStmt, FitsBody, FitsArms, FitsFunction, GivesSeveral, bound_after, after_let, pattern_locals, read_holds, each_holds, local_holds}
use Rattle.isle_simulation.specs.Bare.{bare, bare_before, bare_arms, body_before}
use Rattle.isle_simulation.proofs.Closed.{Closes, done, then, ClosesStmt, lets, lists, if_eq, if_let, match, loop, returns, extends, stops as stops_so, logs, tails, ClosesArm, plain, closed, ClosesArms, no_arm, one_arm}

-- ---- runs

-- where the closure around is left, the function without it ends
abbrev pub left : Flow → Flow
left (Goes env s) = Goes env s
left (Ends end s) = Ends end s
left (Leaves s) = Ends (GivesList s.given) s
left Stuck = Stuck

left_on : (f : Flow) (go other : Env → State → Flow) → ((e : Env) (s : State) → left (go e s) ≡ other e s) → left (then_run f go) ≡ then_run (left f) other
left_on (Goes env s) go other h = h env s
left_on (Ends end s) go other h = refl
left_on (Leaves s) go other h = refl
left_on Stuck go other h = refl

left_then : (f g : Flow) (go other : Env → State → Flow) → left f ≡ g → ((e : Env) (s : State) → left (go e s) ≡ other e s) → left (then_run f go) ≡ then_run g other
left_then f g go other e h = left_on f go other h ∙ ap (λ x. then_run x other) e

left_scope : (env : Env) (f : Flow) → left (after_scope env f) ≡ after_scope env (left f)
left_scope env (Goes inner s) = refl
left_scope env (Ends end s) = refl
left_scope env (Leaves s) = refl
left_scope env Stuck = refl

-- in an arm a closure does what its statements do without it
closure_scope : (w : Around) (inside : Bool) (env outer : Env) (f : Flow) → left (after_scope outer (then_run (after_closure inside env f) (run_body w Done))) ≡ after_scope outer (left f)
closure_scope w inside env outer (Goes inner s) = refl
closure_scope w inside env outer (Ends end s) = refl
closure_scope w true env outer (Leaves s) = refl
closure_scope w false env outer (Leaves s) = refl
closure_scope w inside env outer Stuck = refl

value_left : (h : Held) (go other : Value → Flow) → ((v : Value) → left (go v) ≡ other v) → left (on_value h go) ≡ on_value h other
value_left (One (AValue v)) go other k = k v
value_left (One (ATuple vs)) go other k = refl
value_left (Optional o) go other k = refl
value_left (Listed is) go other k = refl
value_left Absent go other k = refl

list_left : (h : Held) (go other : List Item → Flow) → ((is : List Item) → left (go is) ≡ other is) → left (on_list h go) ≡ on_list h other
list_left (Listed is) go other k = k is
list_left (One i) go other k = refl
list_left (Optional o) go other k = refl
list_left Absent go other k = refl

fitted_left : (o : Option Env) (go other : Env → Flow) (f g : Flow) → ((bound : Env) → left (go bound) ≡ other bound) → left f ≡ g → left (fitted o go f) ≡ fitted o other g
fitted_left (Some bound) go other f g h e = h bound
fitted_left None go other f g h e = e

items_left : (is : List Item) (env : Env) (s : State) (go other : Item → State → Flow) → ((i : Item) (t : State) → left (go i t) ≡ other i t) → left (run_items go env is s) ≡ run_items other env is s
items_left [] env s go other h = refl
items_left (i ∷ is) env s go other h = left_then (go i s) (other i s) (λ inner t. run_items go env is t) (λ inner t. run_items other env is t) (h i s) (λ inner t. items_left is env t go other h)

cond_left : (b : Bool) (f g : Flow) (env : Env) (s : State) → left f ≡ g → left (cond b f (Goes env s)) ≡ cond b g (Goes env s)
cond_left true f g env s e = e
cond_left false f g env s e = refl

-- ---- statements that leave nothing

held_stays : (h : Held) (go : Held → Flow) → ((g : Held) → left (go g) ≡ go g) → left (on_held h go) ≡ on_held h go
held_stays (One i) go k = k (One i)
held_stays (Optional o) go k = k (Optional o)
held_stays (Listed is) go k = k (Listed is)
held_stays Absent go k = refl

bind_stays : (n : ℕ) (h : Held) (env : Env) (s : State) → left (run_bind n h env s) ≡ run_bind n h env s
bind_stays n h env s = held_stays h (λ g. Goes (bind env n g) s) (λ g. refl)

called_stays : (n : ℕ) (c : Called) (env : Env) (s : State) → left (run_called n c env s) ≡ run_called n c env s
called_stays n (Answered a made) env s = bind_stays n (answer_held a) env (record { made = made; given = s.given })
called_stays n (Ended end made) env s = refl
called_stays n Unanswered env s = refl

call_stays : (w : Around) (n : ℕ) (callee : Callee) (o : Option (List Value)) (env : Env) (s : State) → left (run_call w n callee o env s) ≡ run_call w n callee o env s
call_stays w n callee None env s = refl
call_stays w n callee (Some vs) env s = called_stays n (w.caller callee vs s.made) env s

try_stays : (n : ℕ) (h : Held) (env : Env) (s : State) → left (run_try n h env s) ≡ run_try n h env s
try_stays n (Optional (Some i)) env s = refl
try_stays n (Optional None) env s = refl
try_stays n (One i) env s = refl
try_stays n (Listed is) env s = refl
try_stays n Absent env s = refl

variant_stays : (n : ℕ) (ty variant : List ℕ) (o : Option FieldValues) (env : Env) (s : State) → left (run_variant n ty variant o env s) ≡ run_variant n ty variant o env s
variant_stays n ty variant None env s = refl
variant_stays n ty variant (Some fs) env s = refl

struct_stays : (n : ℕ) (ty : List ℕ) (o : Option FieldValues) (env : Env) (s : State) → left (run_struct n ty o env s) ≡ run_struct n ty o env s
struct_stays n ty None env s = refl
struct_stays n ty (Some fs) env s = refl

part_stays : (n : ℕ) (o : Option Value) (env : Env) (s : State) → left (run_part n o env s) ≡ run_part n o env s
part_stays n None env s = refl
part_stays n (Some v) env s = refl

let_stays : (w : Around) (n : ℕ) (e : TExpr) (env : Env) (s : State) → left (run_let w n e env s) ≡ run_let w n e env s
let_stays w n (expr.Read r) env s = bind_stays n (read_value w env r) env s
let_stays w n (expr.Some r) env s = value_left (read_value w env r) (λ v. Goes (bind env n (an_option (Some v))) s) (λ v. Goes (bind env n (an_option (Some v))) s) (λ v. refl)
let_stays w n (expr.Call borrow call) env s = call_stays w n call.callee (read_values w env call.args) env s
let_stays w n (expr.Try source as_ref) env s = try_stays n (value_of w env source) env s
let_stays w n (expr.Variant ty variant fields) env s = variant_stays n ty variant (read_fields w env fields) env s
let_stays w n (expr.Struct ty fields) env s = struct_stays n ty (read_fields w env fields) env s
let_stays w n (expr.Tuple source part) env s = part_stays n (part_of part (value_of w env source)) env s

ends_stays : (h : Held) (s : State) → left (ends_with h s) ≡ ends_with h s
ends_stays (One (AValue v)) s = refl
ends_stays (One (ATuple vs)) s = refl
ends_stays (Optional (Some (AValue v))) s = refl
ends_stays (Optional (Some (ATuple vs))) s = refl
ends_stays (Optional None) s = refl
ends_stays (Listed is) s = refl
ends_stays Absent s = refl

return_stays : (w : Around) (e : TExpr) (env : Env) (s : State) → left (run_return w e env s) ≡ run_return w e env s
return_stays w (expr.Read r) env s = ends_stays (read_value w env r) s
return_stays w (expr.Some r) env s = value_left (read_value w env r) (λ v. Ends (GivesSome v) s) (λ v. Ends (GivesSome v) s) (λ v. refl)
return_stays w (expr.Call borrow call) env s = refl
return_stays w (expr.Try source as_ref) env s = refl
return_stays w (expr.Variant ty variant fields) env s = refl
return_stays w (expr.Struct ty fields) env s = refl
return_stays w (expr.Tuple source part) env s = refl

stop_left : (inside : Bool) (s : State) → left (stops inside s) ≡ stops false s
stop_left true s = refl
stop_left false s = refl

-- ---- runs

module _ (kind : ReturnKind) (w : Around) where
  mutual
    -- where a body with closures leaves the one around it, that without them ends with the list; else they go alike
    closes_runs : {inside : Bool} {x y : Body} → Closes kind inside x y → (env : Env) (s : State) → left (run_body w y env s) ≡ run_body w x env s
    closes_runs (done inside) env s = refl
    closes_runs (then inside a b us bs h k) env s = left_then (run_stmt w b env s) (run_stmt w a env s) (run_body w bs) (run_body w us) (stmt_runs h env s) (λ e t. closes_runs k e t)

    stmt_runs : {inside : Bool} {a b : Stmt} → ClosesStmt kind inside a b → (env : Env) (s : State) → left (run_stmt w b env s) ≡ run_stmt w a env s
    stmt_runs (lets inside n e) env s = let_stays w n e env s
    stmt_runs (lists inside n call) env s = call_stays w n call.callee (read_values w env call.args) env s
    stmt_runs (if_eq inside a b x y h) env s =
        value_left (value_of w env a) _ _ (λ v. value_left (value_of w env b) _ _ (λ u. cond_left (same_in_run v u) (after_scope env (run_body w y env s)) (after_scope env (run_body w x env s)) env s (arm_runs h env env s)))
    stmt_runs (if_let inside pat r x y h) env s = fitted_left (fit w pat (read_value w env r)) _ _ (Goes env s) (Goes env s) (λ bound. arm_runs h (env ++ bound) env s) refl
    stmt_runs (match inside r xs ys h) env s = arms_runs h (read_value w env r) env s
    stmt_runs (loop inside list item x y h) env s = list_left (look env list) _ _ (λ is. items_left is env s _ _ (λ i t. closes_runs h (bind env item (One i)) t))
    stmt_runs (returns inside e) env s = return_stays w e env s
    stmt_runs (extends inside r) env s = value_left (read_value w env r) (λ v. Goes env (one_given s v)) (λ v. Goes env (one_given s v)) (λ v. refl)
    stmt_runs (stops_so inside limit) env s = cond_left (is_full w.held limit s.given) (stops inside s) (stops false s) env s (stop_left inside s)
    stmt_runs (logs inside term place) env s = refl
    stmt_runs (tails inside mark) env s = refl

    arm_runs : {inside : Bool} {x y : Body} → ClosesArm kind inside x y → (env outer : Env) (s : State) → left (after_scope outer (run_body w y env s)) ≡ after_scope outer (run_body w x env s)
    arm_runs (plain inside x y h) env outer s = left_scope outer (run_body w y env s) ∙ ap (after_scope outer) (closes_runs h env s)
    arm_runs (closed inside x y several h) env outer s = closure_scope w inside env outer (run_body w y env s) ∙ ap (after_scope outer) (closes_runs h env s)

    arms_runs : {inside : Bool} {xs ys : Arms} → ClosesArms kind inside xs ys → (h : Held) (env : Env) (s : State) → left (run_arms w ys h env s) ≡ run_arms w xs h env s
    arms_runs (no_arm inside) h env s = refl
    arms_runs (one_arm inside pat x y xs ys a k) h env s =
        fitted_left (fit w pat h) (λ bound. after_scope env (run_body w y (env ++ bound) s)) (λ bound. after_scope env (run_body w x (env ++ bound) s)) (run_arms w ys h env s) (run_arms w xs h env s) (λ bound. arm_runs a (env ++ bound) env s) (arms_runs k h env s)

-- ---- outside all closures

stays_then : (f : Flow) (go : Env → State → Flow) → left f ≡ f → ((e : Env) (s : State) → left (go e s) ≡ go e s) → left (then_run f go) ≡ then_run f go
stays_then f go e h = left_then f f go go e h

stays_scope : (env : Env) (f : Flow) → left f ≡ f → left (after_scope env f) ≡ after_scope env f
stays_scope env f e = left_scope env f ∙ ap (after_scope env) e

stays_closure : (env : Env) (f : Flow) → left (after_closure false env f) ≡ after_closure false env f
stays_closure env (Goes inner s) = refl
stays_closure env (Ends end s) = refl
stays_closure env (Leaves s) = refl
stays_closure env Stuck = refl

module _ (kind : ReturnKind) (w : Around) where
  mutual
    -- a body that stands in no closure leaves none
    stays : {x y : Body} → Closes kind false x y → (env : Env) (s : State) → left (run_body w y env s) ≡ run_body w y env s
    stays (done inside) env s = refl
    stays (then inside a b us bs h k) env s = stays_then (run_stmt w b env s) (run_body w bs) (stmt_stays h env s) (λ e t. stays k e t)

    stmt_stays : {a b : Stmt} → ClosesStmt kind false a b → (env : Env) (s : State) → left (run_stmt w b env s) ≡ run_stmt w b env s
    stmt_stays (lets inside n e) env s = let_stays w n e env s
    stmt_stays (lists inside n call) env s = call_stays w n call.callee (read_values w env call.args) env s
    stmt_stays (if_eq inside a b x y h) env s =
        value_left (value_of w env a) _ _ (λ v. value_left (value_of w env b) _ _ (λ u. cond_left (same_in_run v u) (after_scope env (run_body w y env s)) (after_scope env (run_body w y env s)) env s (stays_scope env (run_body w y env s) (arm_stays h env s))))
    stmt_stays (if_let inside pat r x y h) env s = fitted_left (fit w pat (read_value w env r)) _ _ (Goes env s) (Goes env s) (λ bound. stays_scope env (run_body w y (env ++ bound) s) (arm_stays h (env ++ bound) s)) refl
    stmt_stays (match inside r xs ys h) env s = arms_stay h (read_value w env r) env s
    stmt_stays (loop inside list item x y h) env s = list_left (look env list) _ _ (λ is. items_left is env s _ _ (λ i t. stays h (bind env item (One i)) t))
    stmt_stays (returns inside e) env s = return_stays w e env s
    stmt_stays (extends inside r) env s = value_left (read_value w env r) (λ v. Goes env (one_given s v)) (λ v. Goes env (one_given s v)) (λ v. refl)
    stmt_stays (stops_so inside limit) env s = cond_left (is_full w.held limit s.given) (stops false s) (stops false s) env s refl
    stmt_stays (logs inside term place) env s = refl
    stmt_stays (tails inside mark) env s = refl

    arm_stays : {x y : Body} → ClosesArm kind false x y → (env : Env) (s : State) → left (run_body w y env s) ≡ run_body w y env s
    arm_stays (plain inside x y h) env s = stays h env s
    arm_stays (closed inside x y several h) env s = stays_then (after_closure false env (run_body w y env s)) (run_body w Done) (stays_closure env (run_body w y env s)) (λ e t. refl)

    arms_stay : {xs ys : Arms} → ClosesArms kind false xs ys → (h : Held) (env : Env) (s : State) → left (run_arms w ys h env s) ≡ run_arms w ys h env s
    arms_stay (no_arm inside) h env s = refl
    arms_stay (one_arm inside pat x y xs ys a k) h env s =
        fitted_left (fit w pat h) (λ bound. after_scope env (run_body w y (env ++ bound) s)) (λ bound. after_scope env (run_body w y (env ++ bound) s)) (run_arms w ys h env s) (run_arms w ys h env s)
        (λ bound. stays_scope env (run_body w y (env ++ bound) s) (arm_stays a (env ++ bound) s)) (arms_stay k h env s)

-- a body with closures runs as that without them
pub closed_runs : (kind : ReturnKind) (w : Around) (x y : Body) → Closes kind false x y → (env : Env) (s : State) → run_body w y env s ≡ run_body w x env s
closed_runs kind w x y h env s = sym (stays kind w h env s) ∙ closes_runs kind w h env s

-- ---- forms

several_kept : {kind : ReturnKind} {inside : Bool} {xs ys : Arms} → ClosesArms kind inside xs ys → HasSeveral xs → HasSeveral ys
several_kept (no_arm inside) h = absurd h
several_kept (one_arm inside pat x y xs ys a (no_arm other)) h = absurd h
several_kept (one_arm inside pat x y xs ys a (one_arm other pat' x' y' xs' ys' b k)) h = tt

module _ (kind : ReturnKind) where
  mutual
    pub closed_is : {inside : Bool} {x y : Body} → Closes kind inside x y → IsBody x → IsBody y
    closed_is (done inside) h = tt
    closed_is (then inside a b us bs c d) h = (stmt_is c h.0, closed_is d h.1)

    stmt_is : {inside : Bool} {a b : Stmt} → ClosesStmt kind inside a b → IsStmt a → IsStmt b
    stmt_is (lets inside n e) h = h
    stmt_is (lists inside n call) h = h
    stmt_is (if_eq inside a b x y c) h = (h.0, h.1, arm_is c h.2)
    stmt_is (if_let inside pat r x y c) h = (h.0, h.1, arm_is c h.2)
    stmt_is (match inside r xs ys c) h = (h.0, several_kept c h.1, arms_are c h.2)
    stmt_is (loop inside list item x y c) h = closed_is c h
    stmt_is (returns inside e) h = h
    stmt_is (extends inside r) h = h
    stmt_is (stops_so inside limit) h = h
    stmt_is (logs inside term place) h = h
    stmt_is (tails inside mark) h = h

    arm_is : {inside : Bool} {x y : Body} → ClosesArm kind inside x y → IsBody x → IsBody y
    arm_is (plain inside x y c) h = closed_is c h
    arm_is (closed inside x y several c) h = (closed_is c h, tt)

    arms_are : {inside : Bool} {xs ys : Arms} → ClosesArms kind inside xs ys → AreArms xs → AreArms ys
    arms_are (no_arm inside) h = tt
    arms_are (one_arm inside pat x y xs ys a c) h = (h.0, arm_is a h.1, arms_are c h.2)

-- ---- scopes

module _ (kind : ReturnKind) (fns : Callables) (params : ℕ) where
  bound_same : {inside : Bool} {a b : Stmt} (bound : Locals) → ClosesStmt kind inside a b → bound_after fns params b bound ≡ bound_after fns params a bound
  bound_same bound (lets inside n e) = refl
  bound_same bound (lists inside n call) = refl
  bound_same bound (if_eq inside a b x y c) = refl
  bound_same bound (if_let inside pat r x y c) = refl
  bound_same bound (match inside r xs ys c) = refl
  bound_same bound (loop inside list item x y c) = refl
  bound_same bound (returns inside e) = refl
  bound_same bound (extends inside r) = refl
  bound_same bound (stops_so inside limit) = refl
  bound_same bound (logs inside term place) = refl
  bound_same bound (tails inside mark) = refl

  mutual
    pub closed_scoped : {inside : Bool} {x y : Body} → Closes kind inside x y → (bound : Locals) → IsBodyScoped fns kind params bound x → IsBodyScoped fns kind params bound y
    closed_scoped (done inside) bound h = tt
    closed_scoped (then inside a b us bs c d) bound h = (stmt_scoped c bound h.0, subst (λ now. IsBodyScoped fns kind params now bs) (sym (bound_same bound c)) (closed_scoped d (bound_after fns params a bound) h.1))

    stmt_scoped : {inside : Bool} {a b : Stmt} → ClosesStmt kind inside a b → (bound : Locals) → IsStmtScoped fns kind params bound a → IsStmtScoped fns kind params bound b
    stmt_scoped (lets inside n e) bound h = h
    stmt_scoped (lists inside n call) bound h = h
    stmt_scoped (if_eq inside a b x y c) bound h = (h.0, h.1, arm_scoped c bound h.2)
    stmt_scoped (if_let inside pat r x y c) bound h = (h.0, arm_scoped c (bound ++ pattern_locals pat (read_holds params bound r)) h.1)
    stmt_scoped (match inside r xs ys c) bound h = arms_scoped c bound (read_holds params bound r) h
    stmt_scoped (loop inside list item x y c) bound h = (h.0, closed_scoped c (after_let (each_holds (local_holds bound list)) item bound) h.1)
    stmt_scoped (returns inside e) bound h = h
    stmt_scoped (extends inside r) bound h = h
    stmt_scoped (stops_so inside limit) bound h = h
    stmt_scoped (logs inside term place) bound h = h
    stmt_scoped (tails inside mark) bound h = h

    arm_scoped : {inside : Bool} {x y : Body} → ClosesArm kind inside x y → (bound : Locals) → IsBodyScoped fns kind params bound x → IsBodyScoped fns kind params bound y
    arm_scoped (plain inside x y c) bound h = closed_scoped c bound h
    arm_scoped (closed inside x y several c) bound h = (closed_scoped c bound h, tt)

    arms_scoped : {inside : Bool} {xs ys : Arms} → ClosesArms kind inside xs ys → (bound : Locals) (held : Option Holds) → AreArmsScoped fns kind params bound held xs → AreArmsScoped fns kind params bound held ys
    arms_scoped (no_arm inside) bound held h = tt
    arms_scoped (one_arm inside pat x y xs ys a c) bound held h = (h.0, arm_scoped a (bound ++ pattern_locals pat held) h.1, arms_scoped c bound held h.2)

-- ---- kinds

module _ (kind : ReturnKind) where
  mutual
    pub closed_fits : {inside : Bool} {x y : Body} → Closes kind inside x y → FitsBody kind false x → FitsBody kind inside y
    closed_fits (done inside) h = tt
    closed_fits (then inside a b us bs c d) h = (stmt_fits c h.0, closed_fits d h.1)

    stmt_fits : {inside : Bool} {a b : Stmt} → ClosesStmt kind inside a b → FitsStmt kind false a → FitsStmt kind inside b
    stmt_fits (lets inside n e) h = h
    stmt_fits (lists inside n call) h = h
    stmt_fits (if_eq inside a b x y c) h = arm_fits c h
    stmt_fits (if_let inside pat r x y c) h = arm_fits c h
    stmt_fits (match inside r xs ys c) h = arms_fit c h
    stmt_fits (loop inside list item x y c) h = closed_fits c h
    stmt_fits (returns inside e) h = h
    stmt_fits (extends inside r) h = h
    stmt_fits (stops_so inside limit) h = (h.0, refl)
    stmt_fits (logs inside term place) h = h
    stmt_fits (tails inside mark) h = absurd h

    arm_fits : {inside : Bool} {x y : Body} → ClosesArm kind inside x y → FitsBody kind false x → FitsBody kind inside y
    arm_fits (plain inside x y c) h = closed_fits c h
    arm_fits (closed inside x y several c) h = ((several, refl, closed_fits c h), tt)

    arms_fit : {inside : Bool} {xs ys : Arms} → ClosesArms kind inside xs ys → FitsArms kind false xs → FitsArms kind inside ys
    arms_fit (no_arm inside) h = tt
    arms_fit (one_arm inside pat x y xs ys a c) h = (arm_fits a h.0, arms_fit c h.1)

-- ---- bare bodies

before_done : (b : Body) → body_before b Done ≡ b
before_done Done = refl
before_done (Then s ss) = ap (Then s) (before_done ss)

module _ (kind : ReturnKind) where
  mutual
    pub closed_bare : {inside : Bool} {x y : Body} → Closes kind inside x y → bare y ≡ bare x
    closed_bare (done inside) = refl
    closed_bare (then inside a b us bs c d) = ap (bare_before b) (closed_bare d) ∙ stmt_bare (bare us) c

    stmt_bare : {inside : Bool} {a b : Stmt} (after : Body) → ClosesStmt kind inside a b → bare_before b after ≡ bare_before a after
    stmt_bare after (lets inside n e) = refl
    stmt_bare after (lists inside n call) = refl
    stmt_bare after (if_eq inside a b x y c) = ap (λ i. Then (IfEq a b i) after) (arm_bare c)
    stmt_bare after (if_let inside pat r x y c) = ap (λ i. Then (IfLet pat r i) after) (arm_bare c)
    stmt_bare after (match inside r xs ys c) = ap (λ i. Then (Match r i) after) (arms_bare c)
    stmt_bare after (loop inside list item x y c) = ap (λ i. Then (Loop list item i) after) (closed_bare c)
    stmt_bare after (returns inside e) = refl
    stmt_bare after (extends inside r) = refl
    stmt_bare after (stops_so inside limit) = refl
    stmt_bare after (logs inside term place) = refl
    stmt_bare after (tails inside mark) = refl

    arm_bare : {inside : Bool} {x y : Body} → ClosesArm kind inside x y → bare y ≡ bare x
    arm_bare (plain inside x y c) = closed_bare c
    arm_bare (closed inside x y several c) = before_done (bare y) ∙ closed_bare c

    arms_bare : {inside : Bool} {xs ys : Arms} → ClosesArms kind inside xs ys → bare_arms ys ≡ bare_arms xs
    arms_bare (no_arm inside) = refl
    arms_bare (one_arm inside pat x y xs ys a c) = ap (λ i. Arm pat i (bare_arms ys)) (arm_bare a) ∙ ap (Arm pat (bare x)) (arms_bare c)

-- ---- what single statements give

-- what is given hangs on no closure and no stop
pub record IsOpen {A : Type 0} (each : Stmt → List A) : Type 0 where
  pub if_eq : (a b : _) (x y : Body) → each (IfEq a b x) ≡ each (IfEq a b y)
  pub if_let : (pat : _) (r : _) (x y : Body) → each (IfLet pat r x) ≡ each (IfLet pat r y)
  pub arms : (r : _) (x y : Arms) → each (Match r x) ≡ each (Match r y)
  pub loop : (list item : ℕ) (x y : Body) → each (Loop list item x) ≡ each (Loop list item y)
  pub split : (b : Body) (inside : Bool) → each (Split b inside) ≡ []
  pub stop : (inside : Bool) (limit : ℕ) → each (Overflow inside limit) ≡ []

module _ {A : Type 0} (kind : ReturnKind) (each : Stmt → List A) (each_open : IsOpen each) where
  mutual
    pub closed_of : {inside : Bool} {x y : Body} → Closes kind inside x y → of_body each y ≡ of_body each x
    closed_of (done inside) = refl
    closed_of (then inside a b us bs c d) = ap (λ xs. of_stmt each b ++ xs) (closed_of d) ∙ ap (λ xs. xs ++ of_body each us) (stmt_of c)

    stmt_of : {inside : Bool} {a b : Stmt} → ClosesStmt kind inside a b → of_stmt each b ≡ of_stmt each a
    stmt_of (lets inside n e) = refl
    stmt_of (lists inside n call) = refl
    stmt_of (if_eq inside a b x y c) = ap (λ xs. xs ++ of_body each y) (each_open.if_eq a b y x) ∙ ap (λ xs. each (IfEq a b x) ++ xs) (arm_of c)
    stmt_of (if_let inside pat r x y c) = ap (λ xs. xs ++ of_body each y) (each_open.if_let pat r y x) ∙ ap (λ xs. each (IfLet pat r x) ++ xs) (arm_of c)
    stmt_of (match inside r xs ys c) = ap (λ us. us ++ of_arms each ys) (each_open.arms r ys xs) ∙ ap (λ us. each (Match r xs) ++ us) (arms_of c)
    stmt_of (loop inside list item x y c) = ap (λ xs. xs ++ of_body each y) (each_open.loop list item y x) ∙ ap (λ xs. each (Loop list item x) ++ xs) (closed_of c)
    stmt_of (returns inside e) = refl
    stmt_of (extends inside r) = refl
    stmt_of (stops_so inside limit) = each_open.stop inside limit ∙ sym (each_open.stop false limit)
    stmt_of (logs inside term place) = refl
    stmt_of (tails inside mark) = refl

    arm_of : {inside : Bool} {x y : Body} → ClosesArm kind inside x y → of_body each y ≡ of_body each x
    arm_of (plain inside x y c) = closed_of c
    arm_of (closed inside x y several c) = append-nil (each (Split y inside) ++ of_body each y) ∙ ap (λ xs. xs ++ of_body each y) (each_open.split y inside) ∙ closed_of c

    arms_of : {inside : Bool} {xs ys : Arms} → ClosesArms kind inside xs ys → of_arms each ys ≡ of_arms each xs
    arms_of (no_arm inside) = refl
    arms_of (one_arm inside pat x y xs ys a c) = ap (λ us. us ++ of_arms each ys) (arm_of a) ∙ ap (λ us. of_body each x ++ us) (arms_of c)

-- ---- functions

module _ (kind : ReturnKind) (once : GivesSeveral kind → ⊥) where
  mutual
    -- a function that answers once has no closures
    same_body : {x y : Body} → Closes kind false x y → y ≡ x
    same_body (done inside) = refl
    same_body (then inside a b us bs c d) = ap (λ i. Then i bs) (same_stmt c) ∙ ap (Then a) (same_body d)

    same_stmt : {a b : Stmt} → ClosesStmt kind false a b → b ≡ a
    same_stmt (lets inside n e) = refl
    same_stmt (lists inside n call) = refl
    same_stmt (if_eq inside a b x y c) = ap (IfEq a b) (same_arm c)
    same_stmt (if_let inside pat r x y c) = ap (IfLet pat r) (same_arm c)
    same_stmt (match inside r xs ys c) = ap (Match r) (same_arms c)
    same_stmt (loop inside list item x y c) = ap (Loop list item) (same_body c)
    same_stmt (returns inside e) = refl
    same_stmt (extends inside r) = refl
    same_stmt (stops_so inside limit) = refl
    same_stmt (logs inside term place) = refl
    same_stmt (tails inside mark) = refl

    same_arm : {x y : Body} → ClosesArm kind false x y → y ≡ x
    same_arm (plain inside x y c) = same_body c
    same_arm (closed inside x y several c) = absurd (once several)

    same_arms : {xs ys : Arms} → ClosesArms kind false xs ys → ys ≡ xs
    same_arms (no_arm inside) = refl
    same_arms (one_arm inside pat x y xs ys a c) = ap (λ i. Arm pat i ys) (same_arm a) ∙ ap (Arm pat x) (same_arms c)

pub closed_fits_function : (of : ReturnKind) (x y : Body) → Closes of false x y → FitsFunction of x → FitsFunction of y
closed_fits_function kind.Plain x y c h = subst (FitsFunction kind.Plain) (sym (same_body kind.Plain (λ g. g) c)) h
closed_fits_function kind.Option x y c h = subst (FitsFunction kind.Option) (sym (same_body kind.Option (λ g. g) c)) h
closed_fits_function kind.Iterator x y c h = closed_fits kind.Iterator c h
