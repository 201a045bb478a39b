use Rattle.isle_values.specs.Views.{seen}
use Rattle.isle_run.specs.declared.trials.TrialFail.TheVariants as fail
use Rattle.isle_run.proofs.Complete.{only_memory}
use Rattle.isle_trace.proofs.traced.traced_trial.Goals as goal

pub returns-in-Err-clause-complete : goal.returns-in-Err-clause-complete
returns-in-Err-clause-complete c = λ can.
    only_memory c.args.options.now c.args.files.now c.args.asked.now.term.now (seen c.args.asked.now.given.now) c.args.asked.now.answers.now (fail.Source c.in-Err.fail) can c.in-Err.ensures.err

pub returns-clause-complete : goal.returns-clause-complete
returns-clause-complete c = λ can.
    only_memory c.args.options.now c.args.files.now c.args.asked.now.term.now (seen c.args.asked.now.given.now) c.args.asked.now.answers.now (fail.Run c.in-Err-of_checked.fail) can c.in-Err-of_checked.ensures.err
