use Rattle.std.proofs.Common.{◌≡◌, drop}
use Rattle.isle_tree.specs.Views.{arms}
use Rattle.isle_tree.specs.Run.{run_arms}
use Rattle.isle_running.specs.RunViews.{held, locals, within, state}
use Rattle.isle_running.specs.Frames.{Follows}
use Rattle.isle_running.specs.Steps.{run_match}
use Rattle.isle_running.proofs.arms.first_fit.Given as goal

abbrev pub invariant-loop-place : goal.invariant-loop-place
invariant-loop-place l =
    (run_arms (within l.around l.frame) (arms (drop l.place l.cases)) (held l.holding) (locals l.frame.locals) (state l.frame)
    ≡ run_match l.read (arms l.cases) (within l.around l.fn.frame) (locals l.fn.frame.locals) (state l.fn.frame))
    × (l.frame.locals ≡ l.fn.frame.locals)
    × Follows l.fn.frame l.frame
