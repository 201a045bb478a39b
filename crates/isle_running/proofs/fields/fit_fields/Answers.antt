use Rattle.std.proofs.Common.{ℕ, List, subst}
use Rattle.std.specs.Prelude.{IfOk}
use Rattle.isle_core.specs.declared.values.Value.{Value as CodeValue}
use Rattle.isle_outcomes.specs.Fields.{fields}
use Rattle.isle_tree.specs.Run as run
use Rattle.isle_running.specs.Steps.{FitsSo}
use Rattle.isle_running.proofs.fields.fit_fields.Goals as goal

pub returns-clause-fits : goal.returns-clause-fits
returns-clause-fits c =
    subst (λ (fs : List (List ℕ × CodeValue)). IfOk c.bind_fields.result (FitsSo (run.fit_fields c.args.binds.now (fields fs)) c.args.frame.now c.bind_fields.new.frame)) c.in_ok-found.ensures c.bind_fields.ensures.fits
