use Rattle.std.proofs.Common.{subst}
use Rattle.std.specs.Prelude.{IfOk}
use Rattle.isle_core.specs.Answered.{Held}
use Rattle.isle_tree.specs.Run as run
use Rattle.isle_running.specs.RunViews.{within}
use Rattle.isle_running.specs.Steps.{FitsSo}
use Rattle.isle_running.proofs.fit.fits.Goals as goal

pub returns-clause-fits : goal.returns-clause-fits
returns-clause-fits c =
    subst (λ (h : Held). IfOk c.fit.result (FitsSo (run.fit (within c.args.around.now c.args.frame.now) c.args.pat.now h) c.args.frame.now c.fit.new.frame)) c.in_ok-holding.ensures (c.fit.ensures.fits c.args.around.now)
