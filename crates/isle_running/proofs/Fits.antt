-- How a statement with a pattern goes on.
use Rattle.std.proofs.Common.{◌≡◌, ℕ, List, [], ◌++◌, length, take, map, Bool, true, false, Option, Some, refl, sym, ap, ◌∙◌, append-nil, append_assoc}
use Rattle.std.proofs.Math.Seq.{take-append_seam}
use Rattle.std.specs.Prelude.{if◌then◌else◌}
use Rattle.isle_core.specs.declared.values.Answers.{Answers}
use Rattle.isle_core.specs.ValueViews.{values, made, meaning}
use Rattle.isle_tree.specs.Program.{Body}
use Rattle.isle_tree.specs.Caller.{by_meaning}
use Rattle.isle_tree.specs.Run.{Env, Flow, Goes, after_scope, fitted, run_body}
use Rattle.isle_tree.specs.Views.{function, program}
use Rattle.isle_running.specs.Called.{Called}
use Rattle.isle_running.specs.Frames.{Follows}
use Rattle.isle_running.specs.RunViews.{locals, within, state, flow}
use Rattle.isle_running.specs.Steps.{FitsSo}
use Rattle.isle_running.specs.declared.around.Around.{Around as CodeAround}
use Rattle.isle_running.specs.declared.flow.Flow.{Flow as CodeFlow}
use Rattle.isle_running.specs.declared.flow.Flow.TheVariants as code
use Rattle.isle_running.specs.declared.frame.Frame.{Frame}
use Rattle.isle_running.specs.declared.holding.Holding.{Holding}

-- a frame with the same calls and results has the same state, and is answered the same
pub same_state : (old mid : Frame) → mid.calls ≡ old.calls → mid.given.items ≡ old.given.items → state mid ≡ state old
same_state old mid calls given = ap (λ (c : Called). record { made = map made c.made; given = values mid.given.items }) calls ∙ ap (λ vs. record { made = map made old.calls.made; given = values vs }) given

pub same_around : (w : CodeAround) (old mid : Frame) → mid.calls.answers ≡ old.calls.answers → within w mid ≡ within w old
same_around w old mid same = ap (λ (a : Answers). record { caller = by_meaning (meaning a); meaning = meaning a; program = program w.program.now; function = function w.function.now; args = values w.args.now; held = Some w.held }) same

-- what was bound after these locals is cut off
pub cut_back : (old mid after : Frame) (len : ℕ) (ls : List (ℕ × Holding)) → Follows old mid → Follows mid after → len ≡ length old.locals → ls ≡ take len after.locals → ls ≡ old.locals
cut_back old mid after len ls h k is cut =
    cut
    ∙ ap (λ n. take n after.locals) is
    ∙ ap (take (length old.locals)) (k.grown ∙ ap (λ xs. xs ++ k.more) h.grown ∙ append_assoc old.locals h.more k.more)
    ∙ take-append_seam old.locals (h.more ++ k.more)

-- the frame then follows the one before
pub cut_follows : (old mid after : Frame) (len : ℕ) (ls : List (ℕ × Holding)) → Follows old mid → Follows mid after → len ≡ length old.locals → ls ≡ take len after.locals → Follows old (record { locals = ls; calls = after.calls; given = after.given })
cut_follows old mid after len ls h k is cut = record {
  more = [];
  grown = cut_back old mid after len ls h k is cut ∙ sym (append-nil old.locals);
  same = k.same ∙ h.same;
}

-- what was bound is cut off from how statements end
pub left_flow : (end : CodeFlow) (after : Frame) (ls : List (ℕ × Holding)) (env : Env) → locals ls ≡ env → after_scope env (flow end after) ≡ flow end (record { locals = ls; calls = after.calls; given = after.given })
left_flow code.Goes after ls env h = ap (λ e. Goes e (state after)) (sym h)
left_flow (code.Ends e) after ls env h = refl
left_flow code.Full after ls env h = refl
left_flow code.Leaves after ls env h = refl
left_flow code.Stuck after ls env h = refl

-- where a pattern fits
pub fits_run : (w : CodeAround) (old mid after : Frame) (b : Body) (o : Option Env) (fits : Bool) (end : CodeFlow) (ls : List (ℕ × Holding)) → FitsSo o old mid fits → fits ≡ true → mid.calls ≡ old.calls → mid.given.items ≡ old.given.items
    → run_body (within w mid) b (locals mid.locals) (state mid) ≡ flow end after → ls ≡ old.locals → (other : Flow)
    → fitted o (λ bound. after_scope (locals old.locals) (run_body (within w old) b (locals old.locals ++ bound) (state old))) other ≡ flow end (record { locals = ls; calls = after.calls; given = after.given })
fits_run w old mid after b o fits end ls h e calls given runs same other =
    let go : Env → Flow = λ env. after_scope (locals old.locals) (run_body (within w old) b env (state old)) in
    h go other
    ∙ ap (λ x. if x then go (locals mid.locals) else other) e
    ∙ ap (λ u. after_scope (locals old.locals) (run_body u b (locals mid.locals) (state old))) (sym (same_around w old mid (ap (λ (c : Called). c.answers) calls)))
    ∙ ap (λ s. after_scope (locals old.locals) (run_body (within w mid) b (locals mid.locals) s)) (sym (same_state old mid calls given))
    ∙ ap (after_scope (locals old.locals)) runs
    ∙ left_flow end after ls (locals old.locals) (ap locals same)

-- where it doesn't
pub fits_not : (w : CodeAround) (old mid : Frame) (b : Body) (o : Option Env) (fits : Bool) → FitsSo o old mid fits → fits ≡ false → (other : Flow)
    → fitted o (λ bound. after_scope (locals old.locals) (run_body (within w old) b (locals old.locals ++ bound) (state old))) other ≡ other
fits_not w old mid b o fits h e other =
    let go : Env → Flow = λ env. after_scope (locals old.locals) (run_body (within w old) b env (state old)) in
    h go other ∙ ap (λ x. if x then go (locals mid.locals) else other) e

-- and nothing follows it
pub not_run : (w : CodeAround) (old mid : Frame) (b : Body) (o : Option Env) (fits : Bool) → FitsSo o old mid fits → fits ≡ false → mid.locals ≡ old.locals → mid.calls ≡ old.calls → mid.given.items ≡ old.given.items
    → fitted o (λ bound. after_scope (locals old.locals) (run_body (within w old) b (locals old.locals ++ bound) (state old))) (Goes (locals old.locals) (state old)) ≡ flow code.Goes mid
not_run w old mid b o fits h e kept calls given =
    fits_not w old mid b o fits h e (Goes (locals old.locals) (state old))
    ∙ ap (Goes (locals old.locals)) (sym (same_state old mid calls given))
    ∙ ap (λ ls. Goes (locals ls) (state mid)) (sym kept)
