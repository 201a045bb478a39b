-- What is so of each thing that is shown.
use Rattle.std.proofs.Common.{ℕ, List}
use Rattle.isle_codegen.specs.declared.compile_error.CompileError.TheVariants as compiling
use Rattle.isle_codegen.proofs.Accepted.{some_errors}
use Rattle.isle_command_line.specs.Request.{Running}
use Rattle.isle_core.specs.declared.files.Files.{Files}
use Rattle.isle_run.specs.NoLines.{HasNoLines}
use Rattle.isle_run.specs.NoLines as trials
use Rattle.isle_run.specs.Valid.{CanRun}
use Rattle.isle_run.specs.declared.trials.TrialFail.{TrialFail}
use Rattle.isle_run.specs.declared.trials.TrialFail.TheVariants as fail
use Rattle.isle_run.proofs.Complete.{only_memory}
use Rattle.isle_top.specs.declared.refusal.Refusal.{Refusal}
use Rattle.isle_top.specs.Job.{Job}
use Rattle.isle_top.specs.Showing.{Showing, FailsToShow, no_lines, of_trial, running}
use Rattle.isle_top.specs.Statuses.{IsOfJob}
use Rattle.isle_top.specs.Wants.{IsWant}

-- what can be shown isn't only for want of memory; and what is told where nothing is shown is there
pub record IsShown (shown : Showing) : Type 1 where
  pub want : (source : Files) (given : List ℕ) (e : Refusal) → shown.can source given → shown.fails source given e → IsWant e
  pub told : (job : Job) (source : Files) (given : List ℕ) (e : Refusal) → shown.fails source given e → IsOfJob job e

-- ---- runs

want_trial : (files : Files) (e : TrialFail) → trials.IsWant e → IsWant (of_trial files e)
want_trial files (fail.Source (compiling.Errors errors)) h = absurd h
want_trial files (fail.Source (compiling.Name e)) h = absurd h
want_trial files (fail.Source compiling.Memory) h = tt
want_trial files (fail.Run e) h = h

told_trial : (job : Job) (r : Running) (files : Files) (given : List ℕ) (e : TrialFail) → HasNoLines r.options files r.term r.values given e → IsOfJob job (of_trial files e)
told_trial job r files given (fail.Source (compiling.Errors errors)) h = (h.placed, some_errors files errors h)
told_trial job r files given (fail.Source (compiling.Name e)) h = tt
told_trial job r files given (fail.Source compiling.Memory) h = tt
told_trial job r files given (fail.Run e) h = tt

want_run : (r : Running) (source : Files) (given : List ℕ) (e : Refusal) → CanRun r.options source r.term r.values given → FailsToShow r source given e → IsWant e
want_run r source given _ can (no_lines cause h) = want_trial source cause (only_memory r.options source r.term r.values given cause can h)

told_run : (r : Running) (job : Job) (source : Files) (given : List ℕ) (e : Refusal) → FailsToShow r source given e → IsOfJob job e
told_run r job source given _ (no_lines cause h) = told_trial job r source given cause h

-- so of a run
pub run_shown : (r : Running) → IsShown (running r)
run_shown r = record { want = want_run r; told = told_run r }
