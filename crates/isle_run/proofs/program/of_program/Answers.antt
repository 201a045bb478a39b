use Rattle.std.proofs.Common.{rules}
use Rattle.isle_core.specs.RuleViews.{environment}
use Rattle.isle_core.specs.ValueViews.{values, ran}
use Rattle.isle_values.specs.Views.{seen}
use Rattle.std.specs.String.{string_bytes}
use Rattle.isle_tree.specs.Views.{program}
use Rattle.isle_run.specs.NoLines.{memory}
use Rattle.isle_run.proofs.Refusing.{by_refusal}
use Rattle.isle_run.proofs.GivesLines.{is_trial}
use Rattle.isle_run.proofs.program.of_program.Goals as goal

pub returns-in-Err-clause-err : goal.returns-in-Err-clause-err
returns-in-Err-clause-err c options files checked conforms = memory

pub returns-in-Err-outcome_under-clause-err : goal.returns-in-Err-outcome_under-clause-err
returns-in-Err-outcome_under-clause-err c options files checked conforms =
    by_refusal options files (environment c.args.checked.now.typeenv c.args.checked.now.termenv) (program c.args.tree.now) c.args.term.now (seen c.args.given.now) (values c.as_slice.result.now) c.args.answers.now c.in-Err-outcome_under.e checked conforms (search rules) (search rules)

pub returns-in-Ok-lines_of-clause-ok : goal.returns-in-Ok-lines_of-clause-ok
returns-in-Ok-lines_of-clause-ok c options files checked conforms =
    is_trial options files (environment c.args.checked.now.typeenv c.args.checked.now.termenv) (program c.args.tree.now) c.args.term.now (seen c.args.given.now) (values c.as_slice.result.now) c.args.answers.now (ran c.in-Ok-outcome_under.outcome) (string_bytes c.in-Ok-lines_of.lines) checked conforms (search rules) (search rules) (search rules)

pub returns-clause-err : goal.returns-clause-err
returns-clause-err c options files checked conforms = memory
