use Rattle.isle_run.specs.NoLines.{memory}
use Rattle.isle_run.proofs.checked.of_checked.Goals as goal

pub returns-in-Err-clause-err : goal.returns-in-Err-clause-err
returns-in-Err-clause-err c = memory
