use Rattle.std.proofs.Common.{rules, ◌≡◌, true, false, Some, length, sym, ap, ◌∙◌}
use Rattle.std.proofs.lemmas.Result.{IfOk-weaker}
use Rattle.std.specs.Prelude.{slice_get}
use Rattle.std.specs.Option.{option_copied}
use Rattle.isle_core.proofs.Got.{got}
use Rattle.isle_tree.specs.Run as run
use Rattle.isle_tree.specs.Views.{stmt, body, arms}
use Rattle.isle_running.specs.RunViews.{locals, within, state}
use Rattle.isle_running.specs.Frames.{Follows}
use Rattle.isle_running.specs.Steps.{RunsSo, item_at, run_match, run_loop}
use Rattle.isle_running.specs.declared.flow.Flow.TheVariants as code
use Rattle.isle_running.proofs.Fits.{cut_back, cut_follows, fits_run, not_run}
use Rattle.isle_running.proofs.MatchArms.{match_stated, arm_ran, none_ran}
use Rattle.isle_running.proofs.Turns.{loop_stated, turn_left, turns_done}
use Rattle.isle_running.proofs.run.+running.Goals as goal

pub run_stmt-returns-in-Loop-clause-runs : goal.run_stmt-returns-in-Loop-clause-runs
run_stmt-returns-in-Loop-clause-runs t c =
    let w = within c.args.around.now c.args.frame.now in
    let ss = c.as_slice-in-Loop.result.now in
    IfOk-weaker c.run_loop.result (RunsSo (run_loop c.in-Loop.list c.in-Loop.item (body ss)) c.args.around.now c.args.frame.now c.run_loop.new.frame) (RunsSo (λ w. run.run_stmt w (stmt c.args.statement.now)) c.args.around.now c.args.frame.now c.run_loop.new.frame)
    (λ end h. loop_stated w c.args.statement.now c.in-Loop.list c.in-Loop.item c.in-Loop.body ss (locals c.args.frame.now.locals) (state c.args.frame.now) c.in-Loop.is c.as_slice-in-Loop.ensures ∙ h)
    c.run_loop.ensures.runs

pub run_loop-returns-in-Ends-clause-runs : goal.run_loop-returns-in-Ends-clause-runs
run_loop-returns-in-Ends-clause-runs t c =
    turn_left c.args.around.now (body c.args.statements.now) c.args.list c.args.item c.loop-index.index c.in-Some.count c.args.frame.now c.loop-index.frame c.in-Some.ensures c.loop-index.invariant.1
    c.run_turn.new.frame c.in_ok-run_turn.field-0 (code.Ends c.in-Ends.end) _ c.loop-index-test.true c.in_ok-run_turn.ensures.kept c.in_ok-run_turn.ensures.follows c.in_ok-run_turn.ensures.runs c.in-Ends.is c.loop-index.invariant.0

pub run_loop-returns-in-Full-clause-runs : goal.run_loop-returns-in-Full-clause-runs
run_loop-returns-in-Full-clause-runs t c =
    turn_left c.args.around.now (body c.args.statements.now) c.args.list c.args.item c.loop-index.index c.in-Some.count c.args.frame.now c.loop-index.frame c.in-Some.ensures c.loop-index.invariant.1
    c.run_turn.new.frame c.in_ok-run_turn.field-0 code.Full _ c.loop-index-test.true c.in_ok-run_turn.ensures.kept c.in_ok-run_turn.ensures.follows c.in_ok-run_turn.ensures.runs c.in-Full.is c.loop-index.invariant.0

pub run_loop-returns-in-Leaves-clause-runs : goal.run_loop-returns-in-Leaves-clause-runs
run_loop-returns-in-Leaves-clause-runs t c =
    turn_left c.args.around.now (body c.args.statements.now) c.args.list c.args.item c.loop-index.index c.in-Some.count c.args.frame.now c.loop-index.frame c.in-Some.ensures c.loop-index.invariant.1
    c.run_turn.new.frame c.in_ok-run_turn.field-0 code.Leaves _ c.loop-index-test.true c.in_ok-run_turn.ensures.kept c.in_ok-run_turn.ensures.follows c.in_ok-run_turn.ensures.runs c.in-Leaves.is c.loop-index.invariant.0

pub run_loop-returns-in-Stuck-clause-runs : goal.run_loop-returns-in-Stuck-clause-runs
run_loop-returns-in-Stuck-clause-runs t c =
    turn_left c.args.around.now (body c.args.statements.now) c.args.list c.args.item c.loop-index.index c.in-Some.count c.args.frame.now c.loop-index.frame c.in-Some.ensures c.loop-index.invariant.1
    c.run_turn.new.frame c.in_ok-run_turn.field-0 code.Stuck _ c.loop-index-test.true c.in_ok-run_turn.ensures.kept c.in_ok-run_turn.ensures.follows c.in_ok-run_turn.ensures.runs c.in-Stuck.is c.loop-index.invariant.0

pub run_loop-loop-index-preserved : goal.run_loop-loop-index-preserved
run_loop-loop-index-preserved t c =
    let left = turn_left c.args.around.now (body c.args.statements.now) c.args.list c.args.item c.loop-index.index c.in-Some.count c.args.frame.now c.loop-index.frame c.in-Some.ensures c.loop-index.invariant.1
    c.run_turn.new.frame c.in_ok-run_turn.field-0 code.Goes _ c.loop-index-test.true c.in_ok-run_turn.ensures.kept c.in_ok-run_turn.ensures.follows c.in_ok-run_turn.ensures.runs c.in-Goes.is c.loop-index.invariant.0 in
    let follows : Follows c.args.frame.now c.run_turn.new.frame = search rules in
    (sym left, c.in_ok-run_turn.ensures.kept ∙ c.loop-index.invariant.1, follows)

pub run_loop-returns-clause-runs : goal.run_loop-returns-clause-runs
run_loop-returns-clause-runs t c =
    turns_done c.args.around.now (body c.args.statements.now) c.args.list c.args.item c.loop-index.index c.in-Some.count c.args.frame.now c.loop-index.frame c.in-Some.ensures c.loop-index.invariant.1
    _ c.loop-index-test.false c.loop-index.invariant.0

pub run_where-returns-in_ok-end-clause-runs : goal.run_where-returns-in_ok-end-clause-runs
run_where-returns-in_ok-end-clause-runs t c =
    let w = within c.args.around.now c.args.frame.now in
    let fits : c.in_ok-fits.field-0 ≡ true = search rules in
    let bound : c.len-bound.result ≡ length c.args.frame.now.locals = search rules in
    fits_run c.args.around.now c.args.frame.now c.fits.new.frame c.run_body.new.frame (body c.args.statements.now) (run.fit w c.args.pat.now (run.read_value w (locals c.args.frame.now.locals) c.args.read.now)) c.in_ok-fits.field-0 c.in_ok-end.end c.truncate.new.self
    c.in_ok-fits.ensures.fits fits c.fits.ensures.calls c.fits.ensures.given c.in_ok-end.ensures.runs
    (cut_back c.args.frame.now c.fits.new.frame c.run_body.new.frame c.len-bound.result c.truncate.new.self c.in_ok-fits.ensures.follows c.in_ok-end.ensures.follows bound c.truncate.ensures)
    (run.Goes (locals c.args.frame.now.locals) (state c.args.frame.now))

pub run_where-returns-in_ok-end-clause-follows : goal.run_where-returns-in_ok-end-clause-follows
run_where-returns-in_ok-end-clause-follows t c =
    let bound : c.len-bound.result ≡ length c.args.frame.now.locals = search rules in
    cut_follows c.args.frame.now c.fits.new.frame c.run_body.new.frame c.len-bound.result c.truncate.new.self c.in_ok-fits.ensures.follows c.in_ok-end.ensures.follows bound c.truncate.ensures

pub run_where-returns-else-branch-clause-runs : goal.run_where-returns-else-branch-clause-runs
run_where-returns-else-branch-clause-runs t c =
    let w = within c.args.around.now c.args.frame.now in
    let fits : c.in_ok-fits.field-0 ≡ false = search rules in
    not_run c.args.around.now c.args.frame.now c.fits.new.frame (body c.args.statements.now) (run.fit w c.args.pat.now (run.read_value w (locals c.args.frame.now.locals) c.args.read.now)) c.in_ok-fits.field-0
    c.in_ok-fits.ensures.fits fits (c.in_ok-fits.ensures.kept fits) c.fits.ensures.calls c.fits.ensures.given

pub run_turn-returns-in_ok-end-clause-runs : goal.run_turn-returns-in_ok-end-clause-runs
run_turn-returns-in_ok-end-clause-runs t c =
    let fits : c.in_ok-fit_item.field-0 ≡ true = search rules in
    let bound : c.len-bound.result ≡ length c.args.frame.now.locals = search rules in
    fits_run c.args.around.now c.args.frame.now c.fit_item.new.frame c.run_body.new.frame (body c.args.statements.now) (run.fit_some (Some c.args.item) (item_at c.args.index (run.look (locals c.args.frame.now.locals) c.args.list))) c.in_ok-fit_item.field-0 c.in_ok-end.end c.truncate.new.self
    c.in_ok-fit_item.ensures.fits fits c.fit_item.ensures.calls c.fit_item.ensures.given c.in_ok-end.ensures.runs
    (cut_back c.args.frame.now c.fit_item.new.frame c.run_body.new.frame c.len-bound.result c.truncate.new.self c.in_ok-fit_item.ensures.follows c.in_ok-end.ensures.follows bound c.truncate.ensures)
    (run.Goes (locals c.args.frame.now.locals) (state c.args.frame.now))

pub run_turn-returns-in_ok-end-clause-follows : goal.run_turn-returns-in_ok-end-clause-follows
run_turn-returns-in_ok-end-clause-follows t c =
    let bound : c.len-bound.result ≡ length c.args.frame.now.locals = search rules in
    cut_follows c.args.frame.now c.fit_item.new.frame c.run_body.new.frame c.len-bound.result c.truncate.new.self c.in_ok-fit_item.ensures.follows c.in_ok-end.ensures.follows bound c.truncate.ensures

pub run_turn-returns-else-branch-clause-runs : goal.run_turn-returns-else-branch-clause-runs
run_turn-returns-else-branch-clause-runs t c =
    let fits : c.in_ok-fit_item.field-0 ≡ false = search rules in
    not_run c.args.around.now c.args.frame.now c.fit_item.new.frame (body c.args.statements.now) (run.fit_some (Some c.args.item) (item_at c.args.index (run.look (locals c.args.frame.now.locals) c.args.list))) c.in_ok-fit_item.field-0
    c.in_ok-fit_item.ensures.fits fits (c.in_ok-fit_item.ensures.kept fits) c.fit_item.ensures.calls c.fit_item.ensures.given

pub run_stmt-returns-in-Match-clause-runs : goal.run_stmt-returns-in-Match-clause-runs
run_stmt-returns-in-Match-clause-runs t c =
    let w = within c.args.around.now c.args.frame.now in
    let cs = c.as_slice-in-Match.result.now in
    IfOk-weaker c.run_match.result (RunsSo (run_match c.in-Match.read (arms cs)) c.args.around.now c.args.frame.now c.run_match.new.frame) (RunsSo (λ w. run.run_stmt w (stmt c.args.statement.now)) c.args.around.now c.args.frame.now c.run_match.new.frame)
    (λ end h. match_stated w c.args.statement.now c.in-Match.read c.in-Match.arms cs (locals c.args.frame.now.locals) (state c.args.frame.now) c.in-Match.is c.as_slice-in-Match.ensures ∙ h)
    c.run_match.ensures.runs

pub run_match-returns-in_ok-end-in-Some-clause-runs : goal.run_match-returns-in_ok-end-in-Some-clause-runs
run_match-returns-in_ok-end-in-Some-clause-runs t c =
    let h = c.get.ensures.lookup in
    let whole = run_match c.args.read.now (arms c.args.cases.now) (within c.args.around.now c.args.frame.now) (locals c.args.frame.now.locals) (state c.args.frame.now) in
    let there = sym (got c.args.cases.now c.in_ok-place.place c.get.result h.1 h.3) ∙ ap option_copied c.in-Some.is in
    let bound : c.len-bound.result ≡ length c.args.frame.now.locals = search rules in
    arm_ran c.args.around.now c.args.frame.now c.first_fit.new.frame c.run_body.new.frame (slice_get c.args.cases.now c.in_ok-place.place) c.in-Some.arm.now c.as_slice.result.now c.in_ok-end-in-Some.end c.truncate.new.self whole
    c.in_ok-place.ensures.chosen there c.as_slice.ensures c.in_ok-end-in-Some.ensures.runs
    (cut_back c.args.frame.now c.first_fit.new.frame c.run_body.new.frame c.len-bound.result c.truncate.new.self c.in_ok-place.ensures.follows c.in_ok-end-in-Some.ensures.follows bound c.truncate.ensures)

pub run_match-returns-in_ok-end-in-Some-clause-follows : goal.run_match-returns-in_ok-end-in-Some-clause-follows
run_match-returns-in_ok-end-in-Some-clause-follows t c =
    let bound : c.len-bound.result ≡ length c.args.frame.now.locals = search rules in
    cut_follows c.args.frame.now c.first_fit.new.frame c.run_body.new.frame c.len-bound.result c.truncate.new.self c.in_ok-place.ensures.follows c.in_ok-end-in-Some.ensures.follows bound c.truncate.ensures

pub run_match-returns-in-None-clause-runs : goal.run_match-returns-in-None-clause-runs
run_match-returns-in-None-clause-runs t c =
    let h = c.get.ensures.lookup in
    let whole = run_match c.args.read.now (arms c.args.cases.now) (within c.args.around.now c.args.frame.now) (locals c.args.frame.now.locals) (state c.args.frame.now) in
    let past = sym (got c.args.cases.now c.in_ok-place.place c.get.result h.1 h.3) ∙ ap option_copied c.in-None.is in
    none_ran c.args.around.now c.args.frame.now c.first_fit.new.frame (slice_get c.args.cases.now c.in_ok-place.place) whole c.in_ok-place.ensures.chosen past
