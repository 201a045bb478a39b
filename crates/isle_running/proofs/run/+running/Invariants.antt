use Rattle.std.proofs.Common.{◌≡◌, ◌+◌, ◌*◌, drop}
use Rattle.isle_tree.specs.Views.{body}
use Rattle.isle_tree.specs.Run as run
use Rattle.isle_running.specs.RunViews.{locals, within, state}
use Rattle.isle_running.specs.Frames.{Follows}
use Rattle.isle_running.specs.Steps.{run_turns, run_loop}
use Rattle.isle_running.proofs.run.+running.Given as goal

abbrev pub invariant-run_body-loop-statement : goal.invariant-run_body-loop-statement
invariant-run_body-loop-statement l =
    (run.run_body (within l.around l.frame) (body (drop l.statement-index l.statements)) (locals l.frame.locals) (state l.frame)
    ≡ run.run_body (within l.around l.fn.frame) (body l.statements) (locals l.fn.frame.locals) (state l.fn.frame))
    × Follows l.fn.frame l.frame

abbrev pub invariant-run_loop-loop-index : goal.invariant-run_loop-loop-index
invariant-run_loop-loop-index l =
    (run_turns l.list l.item l.index (body l.statements) (within l.around l.frame) (locals l.frame.locals) (state l.frame)
    ≡ run_loop l.list l.item (body l.statements) (within l.around l.fn.frame) (locals l.fn.frame.locals) (state l.fn.frame))
    × (l.frame.locals ≡ l.fn.frame.locals)
    × Follows l.fn.frame l.frame

abbrev pub decreases-run_stmt : goal.decreases-run_stmt
decreases-run_stmt l = 6 * goal.size-run_stmt l

abbrev pub decreases-run_body : goal.decreases-run_body
decreases-run_body l = 6 * goal.size-run_body l + 1

abbrev pub decreases-run_inside : goal.decreases-run_inside
decreases-run_inside l = 6 * goal.size-run_inside l + 2

abbrev pub decreases-run_match : goal.decreases-run_match
decreases-run_match l = 6 * goal.size-run_match l + 2

abbrev pub decreases-run_where : goal.decreases-run_where
decreases-run_where l = 6 * goal.size-run_where l + 2

abbrev pub decreases-run_turn : goal.decreases-run_turn
decreases-run_turn l = 6 * goal.size-run_turn l + 2

abbrev pub decreases-run_loop : goal.decreases-run_loop
decreases-run_loop l = 6 * goal.size-run_loop l + 3
