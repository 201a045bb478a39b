use Rattle.std.proofs.Common.{rules}
use Rattle.isle_run.specs.NoLines.{fault}
use Rattle.isle_run.proofs.outcome.outcome_under.Goals as goal

pub returns-in-Err-At-clause-err : goal.returns-in-Err-At-clause-err
returns-in-Err-At-clause-err c = c.refused.ensures c.args.text.now (λ takes. fault _ takes (c.forms.ensures.fault _ (search rules)))
