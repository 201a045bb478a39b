-- The arms of a match, one after another.
use Rattle.std.proofs.Common.{◌≡◌, ℕ, ◌+◌, ◌<◌, ◌≤◌, List, ◌∷◌, length, drop, get_or, Bool, true, false, Option, Some, None, refl, sym, ap, ◌∙◌, arith}
use Rattle.std.specs.Prelude.{if◌then◌else◌, slice_get}
use Rattle.std.proofs.lemmas.List.{drop_more, drop_all}
use Rattle.std.proofs.lemmas.Option.{slice_get_read, slice_get_past}
use Rattle.isle_core.specs.Answered.{Held}
use Rattle.isle_tree.specs.declared.tree.TPat.{TPat}
use Rattle.isle_tree.specs.declared.tree.Read.{Read}
use Rattle.isle_tree.specs.declared.tree.Stmt.{Stmt as CodeStmt}
use Rattle.isle_tree.specs.declared.tree.Stmt.TheVariants as stmts
use Rattle.isle_tree.specs.Run.{Around, Env, State, Flow, after_scope, fit, run_stmt, run_body, run_arms}
use Rattle.isle_tree.specs.Views.{stmt, body, arms}
use Rattle.isle_tree.proofs.Sees.{stmt-match}
use Rattle.isle_running.specs.Called.{Called}
use Rattle.isle_running.specs.RunViews.{locals, within, state, flow}
use Rattle.isle_running.specs.Steps.{FitsSo, run_arm, run_match, chosen_arm}
use Rattle.isle_running.specs.declared.around.Around.{Around as CodeAround}
use Rattle.isle_running.specs.declared.flow.Flow.{Flow as CodeFlow}
use Rattle.isle_running.specs.declared.flow.Flow.TheVariants as code
use Rattle.isle_running.specs.declared.frame.Frame.{Frame}
use Rattle.isle_running.specs.declared.holding.Holding.{Holding}
use Rattle.isle_running.proofs.Fits.{same_around, same_state, fits_not, left_flow}

-- a match as a statement
pub match_stated : (w : Around) (x : CodeStmt) (r : Read) (xs ys : List (TPat × List CodeStmt)) (env : Env) (s : State) → x ≡ stmts.Match r xs → ys ≡ xs → run_stmt w (stmt x) env s ≡ run_match r (arms ys) w env s
match_stated w x r xs ys env s is same = ap (λ z. run_stmt w z env s) (ap stmt is ∙ stmt-match r xs) ∙ ap (λ zs. run_match r (arms zs) w env s) (sym same)

module _ (w : CodeAround) (cs : List (TPat × List CodeStmt)) (i : ℕ) (h : Held) (mid : Frame) (whole : Flow) (before : run_arms (within w mid) (arms (drop i cs)) h (locals mid.locals) (state mid) ≡ whole) where
  -- what follows this arm
  abbrev rest : Flow
  rest = run_arms (within w mid) (arms (drop (i + 1) cs)) h (locals mid.locals) (state mid)

  -- this arm, before what follows it
  now : (x : TPat × List CodeStmt) → i < length cs → x ≡ get_or cs i x → run_arm x.0 h (body x.1) rest (within w mid) (locals mid.locals) (state mid) ≡ whole
  now x lt is = ap (λ ys. run_arms (within w mid) (arms ys) h (locals mid.locals) (state mid)) (sym (drop_more cs i x lt ∙ ap (λ y. y ∷ drop (i + 1) cs) (sym is))) ∙ before

  -- after the last arm none is chosen
  pub none_chosen : (first : Frame) → length cs ≤ i → whole ≡ chosen_arm (slice_get cs (length cs)) w first mid
  none_chosen first le =
      sym before
      ∙ ap (λ ys. run_arms (within w mid) (arms ys) h (locals mid.locals) (state mid)) (drop_all i cs le)
      ∙ sym (ap (λ o. chosen_arm o w first mid) (slice_get_past cs (length cs) (omega arith)))

  module _ (x : TPat × List CodeStmt) (new : Frame) (fits : Bool) (lt : i < length cs) (is : x ≡ get_or cs i x) (so : FitsSo (fit (within w mid) x.0 h) mid new fits) (calls : new.calls ≡ mid.calls) (given : new.given.items ≡ mid.given.items) where
    -- where it fits its statements are left
    pub arm_chosen : (first : Frame) → fits ≡ true → mid.locals ≡ first.locals → whole ≡ chosen_arm (slice_get cs i) w first new
    arm_chosen first e kept =
        let go : Env → Flow = λ env. after_scope (locals mid.locals) (run_body (within w mid) (body x.1) env (state mid)) in
        sym (now x lt is)
        ∙ so go rest
        ∙ ap (λ b. if b then go (locals new.locals) else rest) e
        ∙ ap (λ u. after_scope (locals mid.locals) (run_body u (body x.1) (locals new.locals) (state mid))) (sym (same_around w mid new (ap (λ (c : Called). c.answers) calls)))
        ∙ ap (λ s. after_scope (locals mid.locals) (run_body (within w new) (body x.1) (locals new.locals) s)) (sym (same_state mid new calls given))
        ∙ ap (λ ls. after_scope (locals ls) (run_body (within w new) (body x.1) (locals new.locals) (state new))) kept
        ∙ ap (λ o. chosen_arm o w first new) (sym (slice_get_read cs (length cs) i x refl lt is))

    -- where it doesn't the arms after it are left
    pub arm_passed : fits ≡ false → new.locals ≡ mid.locals → run_arms (within w new) (arms (drop (i + 1) cs)) h (locals new.locals) (state new) ≡ whole
    arm_passed e kept =
        ap (λ u. run_arms u (arms (drop (i + 1) cs)) h (locals new.locals) (state new)) (same_around w mid new (ap (λ (c : Called). c.answers) calls))
        ∙ ap (λ ls. run_arms (within w mid) (arms (drop (i + 1) cs)) h (locals ls) (state new)) kept
        ∙ ap (run_arms (within w mid) (arms (drop (i + 1) cs)) h (locals mid.locals)) (same_state mid new calls given)
        ∙ sym (fits_not w mid new (body x.1) (fit (within w mid) x.0 h) fits so e rest)
        ∙ now x lt is

-- the arm that is chosen ends the match so
pub arm_ran : (w : CodeAround) (old new after : Frame) (o : Option (TPat × List CodeStmt)) (x : TPat × List CodeStmt) (inside : List CodeStmt) (end : CodeFlow) (ls : List (ℕ × Holding)) (whole : Flow) → whole ≡ chosen_arm o w old new → o ≡ Some x → inside ≡ x.1
    → run_body (within w new) (body inside) (locals new.locals) (state new) ≡ flow end after → ls ≡ old.locals → whole ≡ flow end (record { locals = ls; calls = after.calls; given = after.given })
arm_ran w old new after o x inside end ls whole is there same runs kept =
    is
    ∙ ap (λ p. chosen_arm p w old new) there
    ∙ ap (λ ss. after_scope (locals old.locals) (run_body (within w new) (body ss) (locals new.locals) (state new))) (sym same)
    ∙ ap (after_scope (locals old.locals)) runs
    ∙ left_flow end after ls (locals old.locals) (ap locals kept)

-- where there is none the match goes on
pub none_ran : (w : CodeAround) (old new : Frame) (o : Option (TPat × List CodeStmt)) (whole : Flow) → whole ≡ chosen_arm o w old new → o ≡ None → whole ≡ flow code.Goes new
none_ran w old new o whole is there = is ∙ ap (λ p. chosen_arm p w old new) there
