use Rattle.std.proofs.Common.{◌≡◌, Result, Ok, Err, Some, IfOk, ap}
use Rattle.isle_core.specs.Inputs.{bytes_each}
use Rattle.isle_command_line.specs.Lines.{LineS}
use Rattle.isle_command_line.specs.Reading.{asks}
use Rattle.isle_command_line.specs.Request.{Request}
use Rattle.isle_command_line.specs.Views.{seen_command, seen_state}
use Rattle.isle_command_line.specs.declared.commands.Command.{Command}
use Rattle.isle_command_line.specs.declared.commands.LineFail.{LineFail}
use Rattle.isle_command_line.specs.declared.commands.LineFail.TheVariants.{Bad}
use Rattle.isle_command_line.proofs.LineLaws.{line_of, one_line, bad_at, is_missing}
use Rattle.isle_command_line.proofs.line.command.Goals as goal

pub returns-in-Ok-clause-line : goal.returns-in-Ok-clause-line
returns-in-Ok-clause-line c = by c.request.result c.request.ensures.asks
  where
    by : (r : Result Command LineFail) → IfOk r (λ x. asks (seen_state c.in-Ok.state) ≡ Some (seen_command x)) → IfOk r (λ x. LineS (bytes_each c.args.words.now) (seen_command x))
    by (Ok x) h = line_of (bytes_each c.args.words.now) (seen_state c.in-Ok.state) (seen_command x) c.in-Ok.ensures.known h
    by (Err e) h = tt

pub returns-in-Ok-clause-only : goal.returns-in-Ok-clause-only
returns-in-Ok-clause-only c = by c.request.result c.request.ensures.asks
  where
    by : (r : Result Command LineFail) → IfOk r (λ x. asks (seen_state c.in-Ok.state) ≡ Some (seen_command x)) → IfOk r (λ x. (other : Request) → LineS (bytes_each c.args.words.now) other → other ≡ seen_command x)
    by (Ok x) h = λ other k. one_line (line_of (bytes_each c.args.words.now) (seen_state c.in-Ok.state) (seen_command x) c.in-Ok.ensures.known h) k
    by (Err e) h = tt

pub returns-in-Ok-clause-missing : goal.returns-in-Ok-clause-missing
returns-in-Ok-clause-missing c e = is_missing (bytes_each c.args.words.now) (seen_state c.in-Ok.state) c.in-Ok.ensures.known (c.request.ensures.missing e)

pub returns-in-Err-clause-bad : goal.returns-in-Err-clause-bad
returns-in-Err-clause-bad c i e = let same : c.in-Err.fail ≡ Bad i = cc in bad_at (bytes_each c.args.words.now) i (c.in-Err.ensures.bad i (ap Err same))
