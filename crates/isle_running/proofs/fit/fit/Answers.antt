use Rattle.std.proofs.Common.{rules, ◌≡◌, Some, sym, subst}
use Rattle.std.specs.Prelude.{IfOk}
use Rattle.isle_core.specs.Answered.{Held}
use Rattle.isle_core.specs.ValueViews.{value}
use Rattle.isle_tree.specs.Run as run
use Rattle.isle_running.specs.RunViews.{held, within}
use Rattle.isle_running.specs.Steps.{FitsSo}
use Rattle.isle_running.proofs.ValuesIn.{holds_value}
use Rattle.isle_running.proofs.fit.fit.Goals as goal

pub returns-in-Some-value_held-clause-fits : goal.returns-in-Some-value_held-clause-fits
returns-in-Some-value_held-clause-fits c w =
    let there : Some (value c.in-Some-value_held.given.now) ≡ run.value_in (held c.args.holding.now) = search rules in
    subst (λ (h : Held). IfOk c.fit_value.result (FitsSo (run.fit (within w c.args.frame.now) c.args.pat.now h) c.args.frame.now c.fit_value.new.frame))
    (sym (holds_value (held c.args.holding.now) (value c.in-Some-value_held.given.now) there)) (c.fit_value.ensures.fits w)
