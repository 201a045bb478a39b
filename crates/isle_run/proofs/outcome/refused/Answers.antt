use Rattle.std.proofs.Common.{[], inr}
use Rattle.isle_run_inputs.specs.AnswersAt.{answers_at}
use Rattle.isle_run.specs.Compiled.{env_of, attempt}
use Rattle.isle_run.proofs.RunRefusals.{refuses_early}
use Rattle.isle_run.proofs.outcome.refused.Goals as goal

pub returns-in-Ok : goal.returns-in-Ok
returns-in-Ok c text other = inr (other c.in-Ok.ensures.takes)

pub returns-in-Err : goal.returns-in-Err
returns-in-Err c text other =
    let none = answers_at (env_of c.args.compiled.now) [] in
    rw c.placed.ensures (refuses_early (attempt c.args.compiled.now c.args.term.now c.args.args.now) text none c.in-Err.e c.in-Err.ensures.refused)
