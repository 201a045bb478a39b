-- What log lines leave as it was.
use Rattle.std.proofs.Common.{◌≡◌, ℕ, zero, suc, List, [], ◌∷◌, ◌++◌, Bool, true, false, cond, Option, Some, None, refl, ap, ◌∙◌}
use Rattle.std.specs.Prelude.{drop}
use Rattle.isle_core.specs.Answered.{Item, Held, Absent, One, Optional, Listed, AValue, ATuple}
use Rattle.isle_core.specs.Value.{Value}
use Rattle.isle_core.specs.SameInRun.{same_in_run}
use Rattle.isle_core.specs.declared.types.ReturnKind.{ReturnKind}
use Rattle.isle_core.specs.declared.types.ReturnKind.TheVariants as kind
use Rattle.isle_tree.specs.Program.{Stmt, Let, LetList, IfEq, IfLet, Match, Loop, Return, Extend, Overflow, Log, Split, Tail, Body, Done, Then, Arms, NoArm, Arm}
use Rattle.isle_tree.specs.Run.{Around, State, Env, Flow, Goes, Ends, Leaves, Stuck, bind, look, value_of, read_value, on_value, on_list, fit, fitted, then_run, after_scope, after_closure, run_items, run_stmt, run_body, run_arms}
use Rattle.isle_tree.specs.Walk.{of_stmt, of_body, of_arms}
use Rattle.isle_tree.specs.declared.holds.Holds.{Holds}
use Rattle.isle_tree.specs.WellFormed.{Callables, Locals, HasSeveral, IsStmt, IsBody, AreArms, IsStmtScoped, IsBodyScoped, AreArmsScoped, FitsStmt, FitsBody, FitsArms, FitsEnding, FitsFunction, bound_after, after_let, pattern_locals, read_holds, each_holds, local_holds}
use Rattle.isle_simulation.specs.Bare.{bare, bare_before, bare_arms, body_before}
use Rattle.isle_simulation.specs.LogLines.{LogLine}
use Rattle.isle_simulation.proofs.Logged.{first_before, logged, logged_before, logged_arms, results_in, results_of}

-- ---- no lines

drop_none : {A : Type 0} (n : ℕ) → drop {A = A} n [] ≡ []
drop_none zero = refl
drop_none (suc n) = refl

mutual
  -- without lines a body is as it was
  pub logged_none : (b : Body) → logged [] b ≡ b
  logged_none Done = refl
  logged_none (Then s ss) = ap (λ ls. logged_before [] s (logged ls ss)) (drop_none (results_in s)) ∙ ap (logged_before [] s) (logged_none ss) ∙ before_none s ss

  before_none : (s : Stmt) (after : Body) → logged_before [] s after ≡ Then s after
  before_none (Let n e) after = refl
  before_none (LetList n call) after = refl
  before_none (IfEq a b inside) after = ap (λ x. Then (IfEq a b x) after) (logged_none inside)
  before_none (IfLet pat r inside) after = ap (λ x. Then (IfLet pat r x) after) (logged_none inside)
  before_none (Match r arms) after = ap (λ x. Then (Match r x) after) (arms_none arms)
  before_none (Loop list item inside) after = ap (λ x. Then (Loop list item x) after) (logged_none inside)
  before_none (Return e) after = refl
  before_none (Extend r) after = refl
  before_none (Overflow within limit) after = refl
  before_none (Log term place) after = refl
  before_none (Split inside within) after = ap (λ x. Then (Split x within) after) (logged_none inside)
  before_none (Tail mark) after = refl

  arms_none : (arms : Arms) → logged_arms [] arms ≡ arms
  arms_none NoArm = refl
  arms_none (Arm pat inside arms) = ap (λ x. Arm pat x (logged_arms (drop (results_of inside) []) arms)) (logged_none inside) ∙ ap (λ ls. Arm pat inside (logged_arms ls arms)) (drop_none (results_of inside)) ∙ ap (Arm pat inside) (arms_none arms)

-- ---- runs

then_same : (f : Flow) (go other : Env → State → Flow) → ((env : Env) (s : State) → go env s ≡ other env s) → then_run f go ≡ then_run f other
then_same (Goes env s) go other h = h env s
then_same (Ends end s) go other h = refl
then_same (Leaves s) go other h = refl
then_same Stuck go other h = refl

items_same : (is : List Item) (env : Env) (s : State) (go other : Item → State → Flow) → ((i : Item) (t : State) → go i t ≡ other i t) → run_items go env is s ≡ run_items other env is s
items_same [] env s go other h = refl
items_same (i ∷ is) env s go other h =
    ap (λ f. then_run f (λ inner t. run_items go env is t)) (h i s) ∙ then_same (other i s) (λ inner t. run_items go env is t) (λ inner t. run_items other env is t) (λ inner t. items_same is env t go other h)

list_same : (h : Held) (go other : List Item → Flow) → ((is : List Item) → go is ≡ other is) → on_list h go ≡ on_list h other
list_same (Listed is) go other k = k is
list_same (One i) go other k = refl
list_same (Optional o) go other k = refl
list_same Absent go other k = refl

value_same : (h : Held) (go other : Value → Flow) → ((v : Value) → go v ≡ other v) → on_value h go ≡ on_value h other
value_same (One (AValue v)) go other k = k v
value_same (One (ATuple vs)) go other k = refl
value_same (Optional o) go other k = refl
value_same (Listed is) go other k = refl
value_same Absent go other k = refl

fitted_same : (o : Option Env) (go other : Env → Flow) (not : Flow) → ((bound : Env) → go bound ≡ other bound) → fitted o go not ≡ fitted o other not
fitted_same (Some bound) go other not h = h bound
fitted_same None go other not h = refl

line_runs : (lines : List LogLine) (w : Around) (b : Body) (env : Env) (s : State) → run_body w (first_before lines b) env s ≡ run_body w b env s
line_runs [] w b env s = refl
line_runs (l ∷ lines) w b env s = refl

mutual
  -- a body with log lines runs as the body
  pub logged_runs : (b : Body) (lines : List LogLine) (w : Around) (env : Env) (s : State) → run_body w (logged lines b) env s ≡ run_body w b env s
  logged_runs Done lines w env s = refl
  logged_runs (Then st ss) lines w env s =
      before_runs st lines w (logged (drop (results_in st) lines) ss) env s
      ∙ then_same (run_stmt w st env s) (run_body w (logged (drop (results_in st) lines) ss)) (run_body w ss) (λ e t. logged_runs ss (drop (results_in st) lines) w e t)

  before_runs : (st : Stmt) (lines : List LogLine) (w : Around) (after : Body) (env : Env) (s : State) → run_body w (logged_before lines st after) env s ≡ then_run (run_stmt w st env s) (run_body w after)
  before_runs (Let n e) lines w after env s = refl
  before_runs (LetList n call) lines w after env s = refl
  before_runs (IfEq a b inside) lines w after env s =
      ap (λ f. then_run f (run_body w after))
      (value_same (value_of w env a) _ _ (λ v. value_same (value_of w env b) _ _ (λ u. ap (λ f. cond (same_in_run v u) (after_scope env f) (Goes env s)) (logged_runs inside lines w env s))))
  before_runs (IfLet pat r inside) lines w after env s =
      ap (λ f. then_run f (run_body w after)) (fitted_same (fit w pat (read_value w env r)) _ _ (Goes env s) (λ bound. ap (after_scope env) (logged_runs inside lines w (env ++ bound) s)))
  before_runs (Match r arms) lines w after env s = ap (λ f. then_run f (run_body w after)) (arms_runs arms lines w (read_value w env r) env s)
  before_runs (Loop list item inside) lines w after env s =
      ap (λ f. then_run f (run_body w after)) (list_same (look env list) _ _ (λ is. items_same is env s _ _ (λ i t. logged_runs inside lines w (bind env item (One i)) t)))
  before_runs (Return e) lines w after env s = line_runs lines w (Then (Return e) after) env s
  before_runs (Extend r) lines w after env s = line_runs lines w (Then (Extend r) after) env s
  before_runs (Overflow within limit) lines w after env s = refl
  before_runs (Log term place) lines w after env s = refl
  before_runs (Split inside within) lines w after env s = ap (λ f. then_run (after_closure within env f) (run_body w after)) (logged_runs inside lines w env s)
  before_runs (Tail mark) lines w after env s = refl

  arms_runs : (arms : Arms) (lines : List LogLine) (w : Around) (h : Held) (env : Env) (s : State) → run_arms w (logged_arms lines arms) h env s ≡ run_arms w arms h env s
  arms_runs NoArm lines w h env s = refl
  arms_runs (Arm pat inside arms) lines w h env s =
      ap (fitted (fit w pat h) (λ bound. after_scope env (run_body w (logged lines inside) (env ++ bound) s))) (arms_runs arms (drop (results_of inside) lines) w h env s)
      ∙ fitted_same (fit w pat h) _ _ (run_arms w arms h env s) (λ bound. ap (after_scope env) (logged_runs inside lines w (env ++ bound) s))

-- ---- forms

line_is : (lines : List LogLine) (b : Body) → IsBody b → IsBody (first_before lines b)
line_is [] b h = h
line_is (l ∷ lines) b h = (tt, h)

several_kept : (arms : Arms) (lines : List LogLine) → HasSeveral arms → HasSeveral (logged_arms lines arms)
several_kept NoArm lines h = absurd h
several_kept (Arm pat inside NoArm) lines h = absurd h
several_kept (Arm pat inside (Arm other body arms)) lines h = tt

mutual
  pub logged_is : (b : Body) (lines : List LogLine) → IsBody b → IsBody (logged lines b)
  logged_is Done lines h = tt
  logged_is (Then s ss) lines h = before_is s lines (logged (drop (results_in s) lines) ss) h.0 (logged_is ss (drop (results_in s) lines) h.1)

  before_is : (s : Stmt) (lines : List LogLine) (after : Body) → IsStmt s → IsBody after → IsBody (logged_before lines s after)
  before_is (Let n e) lines after h k = (h, k)
  before_is (LetList n call) lines after h k = (h, k)
  before_is (IfEq a b inside) lines after h k = ((h.0, h.1, logged_is inside lines h.2), k)
  before_is (IfLet pat r inside) lines after h k = ((h.0, h.1, logged_is inside lines h.2), k)
  before_is (Match r arms) lines after h k = ((h.0, several_kept arms lines h.1, arms_are arms lines h.2), k)
  before_is (Loop list item inside) lines after h k = (logged_is inside lines h, k)
  before_is (Return e) lines after h k = line_is lines (Then (Return e) after) (h, k)
  before_is (Extend r) lines after h k = line_is lines (Then (Extend r) after) (h, k)
  before_is (Overflow within limit) lines after h k = (h, k)
  before_is (Log term place) lines after h k = (h, k)
  before_is (Split inside within) lines after h k = (logged_is inside lines h, k)
  before_is (Tail mark) lines after h k = (h, k)

  arms_are : (arms : Arms) (lines : List LogLine) → AreArms arms → AreArms (logged_arms lines arms)
  arms_are NoArm lines h = tt
  arms_are (Arm pat inside arms) lines h = (h.0, logged_is inside lines h.1, arms_are arms (drop (results_of inside) lines) h.2)

-- ---- scopes

line_scoped : (lines : List LogLine) (b : Body) (fns : Callables) (of : ReturnKind) (params : ℕ) (bound : Locals) → IsBodyScoped fns of params bound b → IsBodyScoped fns of params bound (first_before lines b)
line_scoped [] b fns of params bound h = h
line_scoped (l ∷ lines) b fns of params bound h = (tt, h)

mutual
  pub logged_scoped : (b : Body) (lines : List LogLine) (fns : Callables) (of : ReturnKind) (params : ℕ) (bound : Locals) → IsBodyScoped fns of params bound b → IsBodyScoped fns of params bound (logged lines b)
  logged_scoped Done lines fns of params bound h = tt
  logged_scoped (Then s ss) lines fns of params bound h =
      before_scoped s lines (logged (drop (results_in s) lines) ss) fns of params bound h.0 (logged_scoped ss (drop (results_in s) lines) fns of params (bound_after fns params s bound) h.1)

  before_scoped : (s : Stmt) (lines : List LogLine) (after : Body) (fns : Callables) (of : ReturnKind) (params : ℕ) (bound : Locals) → IsStmtScoped fns of params bound s → IsBodyScoped fns of params (bound_after fns params s bound) after
      → IsBodyScoped fns of params bound (logged_before lines s after)
  before_scoped (Let n e) lines after fns of params bound h k = (h, k)
  before_scoped (LetList n call) lines after fns of params bound h k = (h, k)
  before_scoped (IfEq a b inside) lines after fns of params bound h k = ((h.0, h.1, logged_scoped inside lines fns of params bound h.2), k)
  before_scoped (IfLet pat r inside) lines after fns of params bound h k = ((h.0, logged_scoped inside lines fns of params (bound ++ pattern_locals pat (read_holds params bound r)) h.1), k)
  before_scoped (Match r arms) lines after fns of params bound h k = (arms_scoped arms lines fns of params bound (read_holds params bound r) h, k)
  before_scoped (Loop list item inside) lines after fns of params bound h k = ((h.0, logged_scoped inside lines fns of params (after_let (each_holds (local_holds bound list)) item bound) h.1), k)
  before_scoped (Return e) lines after fns of params bound h k = line_scoped lines (Then (Return e) after) fns of params bound (h, k)
  before_scoped (Extend r) lines after fns of params bound h k = line_scoped lines (Then (Extend r) after) fns of params bound (h, k)
  before_scoped (Overflow within limit) lines after fns of params bound h k = (h, k)
  before_scoped (Log term place) lines after fns of params bound h k = (h, k)
  before_scoped (Split inside within) lines after fns of params bound h k = (logged_scoped inside lines fns of params bound h, k)
  before_scoped (Tail mark) lines after fns of params bound h k = (h, k)

  arms_scoped : (arms : Arms) (lines : List LogLine) (fns : Callables) (of : ReturnKind) (params : ℕ) (bound : Locals) (held : Option Holds) → AreArmsScoped fns of params bound held arms → AreArmsScoped fns of params bound held (logged_arms lines arms)
  arms_scoped NoArm lines fns of params bound held h = tt
  arms_scoped (Arm pat inside arms) lines fns of params bound held h =
      (h.0, logged_scoped inside lines fns of params (bound ++ pattern_locals pat held) h.1, arms_scoped arms (drop (results_of inside) lines) fns of params bound held h.2)

-- ---- kinds

line_fits : (lines : List LogLine) (b : Body) (of : ReturnKind) (closed : Bool) → FitsBody of closed b → FitsBody of closed (first_before lines b)
line_fits [] b of closed h = h
line_fits (l ∷ lines) b of closed h = (tt, h)

mutual
  pub logged_fits : (b : Body) (lines : List LogLine) (of : ReturnKind) (closed : Bool) → FitsBody of closed b → FitsBody of closed (logged lines b)
  logged_fits Done lines of closed h = tt
  logged_fits (Then s ss) lines of closed h = before_fits s lines (logged (drop (results_in s) lines) ss) of closed h.0 (logged_fits ss (drop (results_in s) lines) of closed h.1)

  before_fits : (s : Stmt) (lines : List LogLine) (after : Body) (of : ReturnKind) (closed : Bool) → FitsStmt of closed s → FitsBody of closed after → FitsBody of closed (logged_before lines s after)
  before_fits (Let n e) lines after of closed h k = (h, k)
  before_fits (LetList n call) lines after of closed h k = (h, k)
  before_fits (IfEq a b inside) lines after of closed h k = (logged_fits inside lines of closed h, k)
  before_fits (IfLet pat r inside) lines after of closed h k = (logged_fits inside lines of closed h, k)
  before_fits (Match r arms) lines after of closed h k = (arms_fit arms lines of closed h, k)
  before_fits (Loop list item inside) lines after of closed h k = (logged_fits inside lines of closed h, k)
  before_fits (Return e) lines after of closed h k = line_fits lines (Then (Return e) after) of closed (h, k)
  before_fits (Extend r) lines after of closed h k = line_fits lines (Then (Extend r) after) of closed (h, k)
  before_fits (Overflow within limit) lines after of closed h k = (h, k)
  before_fits (Log term place) lines after of closed h k = (h, k)
  before_fits (Split inside within) lines after of closed h k = ((h.0, h.1, logged_fits inside lines of true h.2), k)
  before_fits (Tail mark) lines after of closed h k = absurd h

  arms_fit : (arms : Arms) (lines : List LogLine) (of : ReturnKind) (closed : Bool) → FitsArms of closed arms → FitsArms of closed (logged_arms lines arms)
  arms_fit NoArm lines of closed h = tt
  arms_fit (Arm pat inside arms) lines of closed h = (logged_fits inside lines of closed h.0, arms_fit arms (drop (results_of inside) lines) of closed h.1)

line_ending : (lines : List LogLine) (s : Stmt) (ss : Body) (of : ReturnKind) → FitsEnding of (Then s ss) → FitsEnding of (first_before lines (Then s ss))
line_ending [] s ss of h = h
line_ending (l ∷ lines) s ss of h = (tt, h)

-- a statement before others that are an ending is one
before_ending : (s : Stmt) (lines : List LogLine) (t : Stmt) (ts : Body) (of : ReturnKind) → FitsStmt of false s → FitsEnding of (Then t ts) → FitsEnding of (logged_before lines s (Then t ts))
before_ending (Let n e) lines t ts of h k = (h, k)
before_ending (LetList n call) lines t ts of h k = (h, k)
before_ending (IfEq a b inside) lines t ts of h k = (logged_fits inside lines of false h, k)
before_ending (IfLet pat r inside) lines t ts of h k = (logged_fits inside lines of false h, k)
before_ending (Match r arms) lines t ts of h k = (arms_fit arms lines of false h, k)
before_ending (Loop list item inside) lines t ts of h k = (logged_fits inside lines of false h, k)
before_ending (Return e) lines t ts of h k = line_ending lines (Return e) (Then t ts) of (h, k)
before_ending (Extend r) lines t ts of h k = line_ending lines (Extend r) (Then t ts) of (h, k)
before_ending (Overflow within limit) lines t ts of h k = (h, k)
before_ending (Log term place) lines t ts of h k = (h, k)
before_ending (Split inside within) lines t ts of h k = ((h.0, h.1, logged_fits inside lines of true h.2), k)
before_ending (Tail mark) lines t ts of h k = absurd h

-- so the last one
last_ending : (s : Stmt) (lines : List LogLine) (of : ReturnKind) → FitsEnding of (Then s Done) → FitsEnding of (logged_before lines s Done)
last_ending (Let n e) lines of h = absurd h
last_ending (LetList n call) lines of h = absurd h
last_ending (IfEq a b inside) lines of h = absurd h
last_ending (IfLet pat r inside) lines of h = absurd h
last_ending (Match r arms) lines of h = absurd h
last_ending (Loop list item inside) lines of h = absurd h
last_ending (Return e) lines of h = line_ending lines (Return e) Done of h
last_ending (Extend r) lines of h = absurd h
last_ending (Overflow within limit) lines of h = absurd h
last_ending (Log term place) lines of h = absurd h
last_ending (Split inside within) lines of h = absurd h
last_ending (Tail mark) lines of h = h

ending_before : (s : Stmt) (lines : List LogLine) (b : Body) (of : ReturnKind) → FitsStmt of false s → FitsEnding of b → FitsEnding of (logged_before lines s b)
ending_before s lines Done of h k = absurd k
ending_before s lines (Then t ts) of h k = before_ending s lines t ts of h k

logged_ending : (b : Body) (lines : List LogLine) (of : ReturnKind) → FitsEnding of b → FitsEnding of (logged lines b)
logged_ending Done lines of h = h
logged_ending (Then s Done) lines of h = last_ending s lines of h
logged_ending (Then s (Then t ss)) lines of h = ending_before s lines (logged (drop (results_in s) lines) (Then t ss)) of h.0 (logged_ending (Then t ss) (drop (results_in s) lines) of h.1)

pub logged_fits_function : (b : Body) (lines : List LogLine) (of : ReturnKind) → FitsFunction of b → FitsFunction of (logged lines b)
logged_fits_function b lines kind.Plain h = logged_ending b lines kind.Plain h
logged_fits_function b lines kind.Option h = logged_ending b lines kind.Option h
logged_fits_function b lines kind.Iterator h = logged_fits b lines kind.Iterator false h

-- ---- bare bodies

line_bare : (lines : List LogLine) (b : Body) → bare (first_before lines b) ≡ bare b
line_bare [] b = refl
line_bare (l ∷ lines) b = refl

mutual
  pub logged_bare : (b : Body) (lines : List LogLine) → bare (logged lines b) ≡ bare b
  logged_bare Done lines = refl
  logged_bare (Then s ss) lines = before_bare s lines (logged (drop (results_in s) lines) ss) ∙ ap (bare_before s) (logged_bare ss (drop (results_in s) lines))

  before_bare : (s : Stmt) (lines : List LogLine) (after : Body) → bare (logged_before lines s after) ≡ bare_before s (bare after)
  before_bare (Let n e) lines after = refl
  before_bare (LetList n call) lines after = refl
  before_bare (IfEq a b inside) lines after = ap (λ x. Then (IfEq a b x) (bare after)) (logged_bare inside lines)
  before_bare (IfLet pat r inside) lines after = ap (λ x. Then (IfLet pat r x) (bare after)) (logged_bare inside lines)
  before_bare (Match r arms) lines after = ap (λ x. Then (Match r x) (bare after)) (arms_bare arms lines)
  before_bare (Loop list item inside) lines after = ap (λ x. Then (Loop list item x) (bare after)) (logged_bare inside lines)
  before_bare (Return e) lines after = line_bare lines (Then (Return e) after)
  before_bare (Extend r) lines after = line_bare lines (Then (Extend r) after)
  before_bare (Overflow within limit) lines after = refl
  before_bare (Log term place) lines after = refl
  before_bare (Split inside within) lines after = ap (λ x. body_before x (bare after)) (logged_bare inside lines)
  before_bare (Tail mark) lines after = refl

  arms_bare : (arms : Arms) (lines : List LogLine) → bare_arms (logged_arms lines arms) ≡ bare_arms arms
  arms_bare NoArm lines = refl
  arms_bare (Arm pat inside arms) lines = ap (λ x. Arm pat x (bare_arms (logged_arms (drop (results_of inside) lines) arms))) (logged_bare inside lines) ∙ ap (Arm pat (bare inside)) (arms_bare arms (drop (results_of inside) lines))

-- ---- what single statements give

-- what is given hangs on no statements inside others, and a log line gives nothing
pub record IsOwn {A : Type 0} (each : Stmt → List A) : Type 0 where
  pub if_eq : (a b : _) (x y : Body) → each (IfEq a b x) ≡ each (IfEq a b y)
  pub if_let : (pat : _) (r : _) (x y : Body) → each (IfLet pat r x) ≡ each (IfLet pat r y)
  pub arms : (r : _) (x y : Arms) → each (Match r x) ≡ each (Match r y)
  pub loop : (list item : ℕ) (x y : Body) → each (Loop list item x) ≡ each (Loop list item y)
  pub split : (within : Bool) (x y : Body) → each (Split x within) ≡ each (Split y within)
  pub log : (term place : List ℕ) → each (Log term place) ≡ []

module _ {A : Type 0} (each : Stmt → List A) (own : IsOwn each) where
  line_of : (lines : List LogLine) (b : Body) → of_body each (first_before lines b) ≡ of_body each b
  line_of [] b = refl
  line_of (l ∷ lines) b = ap (λ xs. xs ++ of_body each b) (own.log l.0 l.1)

  mutual
    pub logged_of : (b : Body) (lines : List LogLine) → of_body each (logged lines b) ≡ of_body each b
    logged_of Done lines = refl
    logged_of (Then s ss) lines = before_of s lines (logged (drop (results_in s) lines) ss) ∙ ap (λ xs. of_stmt each s ++ xs) (logged_of ss (drop (results_in s) lines))

    before_of : (s : Stmt) (lines : List LogLine) (after : Body) → of_body each (logged_before lines s after) ≡ of_stmt each s ++ of_body each after
    before_of (Let n e) lines after = refl
    before_of (LetList n call) lines after = refl
    before_of (IfEq a b inside) lines after = ap (λ xs. (xs ++ of_body each (logged lines inside)) ++ of_body each after) (own.if_eq a b (logged lines inside) inside) ∙ ap (λ xs. (each (IfEq a b inside) ++ xs) ++ of_body each after) (logged_of inside lines)
    before_of (IfLet pat r inside) lines after = ap (λ xs. (xs ++ of_body each (logged lines inside)) ++ of_body each after) (own.if_let pat r (logged lines inside) inside) ∙ ap (λ xs. (each (IfLet pat r inside) ++ xs) ++ of_body each after) (logged_of inside lines)
    before_of (Match r arms) lines after = ap (λ xs. (xs ++ of_arms each (logged_arms lines arms)) ++ of_body each after) (own.arms r (logged_arms lines arms) arms) ∙ ap (λ xs. (each (Match r arms) ++ xs) ++ of_body each after) (arms_of arms lines)
    before_of (Loop list item inside) lines after = ap (λ xs. (xs ++ of_body each (logged lines inside)) ++ of_body each after) (own.loop list item (logged lines inside) inside) ∙ ap (λ xs. (each (Loop list item inside) ++ xs) ++ of_body each after) (logged_of inside lines)
    before_of (Return e) lines after = line_of lines (Then (Return e) after)
    before_of (Extend r) lines after = line_of lines (Then (Extend r) after)
    before_of (Overflow within limit) lines after = refl
    before_of (Log term place) lines after = refl
    before_of (Split inside within) lines after = ap (λ xs. (xs ++ of_body each (logged lines inside)) ++ of_body each after) (own.split within (logged lines inside) inside) ∙ ap (λ xs. (each (Split inside within) ++ xs) ++ of_body each after) (logged_of inside lines)
    before_of (Tail mark) lines after = refl

    arms_of : (arms : Arms) (lines : List LogLine) → of_arms each (logged_arms lines arms) ≡ of_arms each arms
    arms_of NoArm lines = refl
    arms_of (Arm pat inside arms) lines = ap (λ xs. xs ++ of_arms each (logged_arms (drop (results_of inside) lines) arms)) (logged_of inside lines) ∙ ap (λ xs. of_body each inside ++ xs) (arms_of arms (drop (results_of inside) lines))
