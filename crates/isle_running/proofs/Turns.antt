-- The turns of a loop, one after another.
use Rattle.std.proofs.Common.{◌≡◌, ℕ, zero, suc, ◌+◌, ◌<◌, ◌≤◌, List, [], ◌∷◌, length, drop, Some, None, refl, sym, ap, ◌∙◌, arith}
use Rattle.std.specs.Prelude.{option_map, slice_get}
use Rattle.std.proofs.lemmas.List.{drop_all}
use Rattle.isle_core.specs.Answered.{Item, Held, Absent, One, Optional, Listed}
use Rattle.isle_tree.specs.Program.{Body}
use Rattle.isle_tree.specs.declared.tree.TPat.TheVariants as pattern
use Rattle.isle_tree.specs.declared.tree.Stmt.{Stmt as CodeStmt}
use Rattle.isle_tree.specs.declared.tree.Stmt.TheVariants as stmts
use Rattle.isle_tree.specs.Run.{Around, Env, State, Flow, Goes, Ends, Leaves, Stuck, look, bind, on_list, then_run, after_scope, run_items, run_stmt, run_body}
use Rattle.isle_tree.specs.Views.{stmt, body}
use Rattle.isle_tree.proofs.Sees.{stmt-loop}
use Rattle.isle_running.specs.Frames.{Follows}
use Rattle.isle_running.specs.RunViews.{locals, within, state, flow}
use Rattle.isle_running.specs.Steps.{list_in, item_at, run_where, run_turn, run_turns, run_loop}
use Rattle.isle_running.specs.declared.around.Around.{Around as CodeAround}
use Rattle.isle_running.specs.declared.flow.Flow.{Flow as CodeFlow}
use Rattle.isle_running.specs.declared.frame.Frame.{Frame}
use Rattle.isle_running.proofs.Fits.{same_around}

-- what follows doesn't see what was bound
then_scope : (env : Env) (end : Flow) (next : State → Flow) → then_run end (λ inner t. next t) ≡ then_run (after_scope env end) (λ inner t. next t)
then_scope env (Goes inner s) next = refl
then_scope env (Ends end s) next = refl
then_scope env (Leaves s) next = refl
then_scope env Stuck next = refl

module _ (w : Around) (b : Body) (item : ℕ) (env : Env) where
  abbrev go : Item → State → Flow
  go i t = run_body w b (bind env item (One i)) t

  -- an item more
  one_more : (is : List Item) (index : ℕ) (s : State) → index < length is
      → run_items go env (drop index is) s ≡ then_run (run_where (pattern.Some (Some item)) (Optional (slice_get is index)) b w env s) (λ inner t. run_items go env (drop (suc index) is) t)
  one_more [] index s lt = absurd (omega (arith, lt))
  one_more (i ∷ is) zero s lt = then_scope env (go i s) (λ t. run_items go env is t)
  one_more (i ∷ is) (suc index) s lt = one_more is index s (omega (arith, lt))

  turn_more : (h : Held) (index count : ℕ) (s : State) → Some count ≡ option_map (λ is. length is) (list_in h) → index < count
      → on_list h (λ is. run_items go env (drop index is) s) ≡ then_run (run_where (pattern.Some (Some item)) (item_at index h) b w env s) (λ inner t. on_list h (λ is. run_items go env (drop (suc index) is) t))
  turn_more (Listed is) index count s e lt = let same : count ≡ length is = cc in one_more is index s (omega (arith, lt, same))
  turn_more (One i) index count s e lt = absurd cc
  turn_more (Optional o) index count s e lt = absurd cc
  turn_more Absent index count s e lt = absurd cc

  no_more : (h : Held) (index count : ℕ) (s : State) → Some count ≡ option_map (λ is. length is) (list_in h) → count ≤ index → on_list h (λ is. run_items go env (drop index is) s) ≡ Goes env s
  no_more (Listed is) index count s e le = let same : count ≡ length is = cc in ap (λ js. run_items go env js s) (drop_all index is (omega (arith, le, same)))
  no_more (One i) index count s e le = absurd cc
  no_more (Optional o) index count s e le = absurd cc
  no_more Absent index count s e le = absurd cc

  first_turn : (h : Held) (s : State) → on_list h (λ is. run_items go env (drop 0 is) s) ≡ on_list h (λ is. run_items go env is s)
  first_turn (Listed is) s = refl
  first_turn (One i) s = refl
  first_turn (Optional o) s = refl
  first_turn Absent s = refl

-- where the local holds no list
pub no_list : (h : Held) (next : List Item → Flow) → None ≡ option_map (λ is. length is) (list_in h) → on_list h next ≡ Stuck
no_list (Listed is) next e = absurd cc
no_list (One i) next e = refl
no_list (Optional o) next e = refl
no_list Absent next e = refl

-- a loop begins with its first turn
pub turns_begin : (w : Around) (b : Body) (list item : ℕ) (env : Env) (s : State) → run_turns list item 0 b w env s ≡ run_loop list item b w env s
turns_begin w b list item env s = first_turn w b item env (look env list) s

-- a loop as a statement
pub loop_stated : (w : Around) (x : CodeStmt) (list item : ℕ) (inside ss : List CodeStmt) (env : Env) (s : State) → x ≡ stmts.Loop list item inside → ss ≡ inside → run_stmt w (stmt x) env s ≡ run_loop list item (body ss) w env s
loop_stated w x list item inside ss env s e same = ap (λ z. run_stmt w z env s) (ap stmt e ∙ stmt-loop list item inside) ∙ ap (λ zs. run_loop list item (body zs) w env s) (sym same)

module _ (w : CodeAround) (b : Body) (list item index count : ℕ) (first old : Frame) (counted : Some count ≡ option_map (λ is. length is) (list_in (look (locals first.locals) list))) (kept : old.locals ≡ first.locals) where
  counted_now : Some count ≡ option_map (λ is. length is) (list_in (look (locals old.locals) list))
  counted_now = counted ∙ ap (λ ls. option_map (λ is. length is) (list_in (look (locals ls) list))) (sym kept)

  -- what is left after a turn, as it ended
  pub turn_left : (new : Frame) (end by : CodeFlow) (whole : Flow) → index < count → new.locals ≡ old.locals → Follows old new → run_turn list item index b (within w old) (locals old.locals) (state old) ≡ flow end new → end ≡ by
      → run_turns list item index b (within w old) (locals old.locals) (state old) ≡ whole → whole ≡ then_run (flow by new) (λ inner t. run_turns list item (index + 1) b (within w new) (locals new.locals) t)
  turn_left new end by whole lt same follows turn is before =
      sym before
      ∙ turn_more (within w old) b item (locals old.locals) (look (locals old.locals) list) index count (state old) counted_now lt
      ∙ ap (λ f. then_run f (λ inner t. run_turns list item (suc index) b (within w old) (locals old.locals) t)) turn
      ∙ ap (λ x. then_run (flow x new) (λ inner t. run_turns list item (suc index) b (within w old) (locals old.locals) t)) is
      ∙ ap (λ u. then_run (flow by new) (λ inner t. run_turns list item (suc index) b u (locals old.locals) t)) (sym (same_around w old new follows.same))
      ∙ ap (λ ls. then_run (flow by new) (λ inner t. run_turns list item (suc index) b (within w new) (locals ls) t)) (sym same)
      ∙ ap (λ n. then_run (flow by new) (λ inner t. run_turns list item n b (within w new) (locals new.locals) t)) {x = suc index} {y = index + 1} (omega arith)

  -- after all turns
  pub turns_done : (whole : Flow) → count ≤ index → run_turns list item index b (within w old) (locals old.locals) (state old) ≡ whole → whole ≡ Goes (locals old.locals) (state old)
  turns_done whole le before = sym before ∙ no_more (within w old) b item (locals old.locals) (look (locals old.locals) list) index count (state old) counted_now le
