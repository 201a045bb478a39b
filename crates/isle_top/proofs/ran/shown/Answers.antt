use Rattle.std.proofs.Common.{rules}
use Rattle.isle_values.specs.Views.{seen}
use Rattle.isle_top.proofs.HadLaws.{shows_lines, shows_traced}
use Rattle.isle_top.proofs.ran.shown.Goals as goal

pub returns-then-run-clause-ok : goal.returns-then-run-clause-ok
returns-then-run-clause-ok c =
    let run = c.args.run.now in
    shows_traced run.trace run.options c.args.files.now run.term (seen run.values) c.args.answers.now c.traced_trial.result (search rules) (search rules)

pub returns-else-run-clause-ok : goal.returns-else-run-clause-ok
returns-else-run-clause-ok c =
    let run = c.args.run.now in
    shows_lines run.trace run.options c.args.files.now run.term (seen run.values) c.args.answers.now c.trial.result (search rules) (search rules)
