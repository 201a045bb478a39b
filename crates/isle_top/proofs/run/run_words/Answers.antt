use Rattle.std.proofs.Common.{rules, ◌≤◌, ◌+◌, ◌*◌, ◌^◌, length, sym, ap, subst, Err}
use Rattle.isle_core.specs.Inputs.{bytes_each}
use Rattle.isle_command_line.specs.Request.{Request}
use Rattle.isle_command_line.specs.Views.{seen_command}
use Rattle.isle_top.specs.Jobs.{Asks, job_of}
use Rattle.isle_top.specs.Statuses as statuses
use Rattle.isle_top.proofs.Refusals.{bad_word, no_bad_word, says_of, wrote}
use Rattle.isle_top.proofs.run.run_words.Goals as goal

pub returns-in-Err-Bad-clause-complete : goal.returns-in-Err-Bad-clause-complete
returns-in-Err-Bad-clause-complete g c = λ request line valid calm. absurd (no_bad_word (bytes_each c.args.words.now) c.in-Err-Bad.index request (c.in-Err-Bad.ensures.bad c.in-Err-Bad.index (ap Err c.in-Err-Bad.field-0-is)) line)

pub returns-in-Ok-clause-complete : goal.returns-in-Ok-clause-complete
returns-in-Ok-clause-complete g c = λ request line valid calm.
    c.run_command.ensures.complete (subst (λ (a : Request). (job_of c.args.tables.now a).valid (g.D.Dir.files c.args.dir.now)) (c.in-Ok.ensures.only request line) valid) calm

pub returns-in-Ok-clause-given : goal.returns-in-Ok-clause-given
returns-in-Ok-clause-given g c = λ request line.
    subst (λ (a : Request). (g.D.Dir.counts c.run_command.new.dir).given ≤ (g.D.Dir.counts c.args.dir.now).given + (2 ^ 24 + 1) * length (job_of c.args.tables.now a).inputs) (sym (c.in-Ok.ensures.only request line)) c.run_command.ensures.given

pub returns-in-Ok-clause-untried : goal.returns-in-Ok-clause-untried
returns-in-Ok-clause-untried g c = λ never. c.run_command.ensures.untried (never (seen_command c.in-Ok.command) c.in-Ok.ensures.line)

pub returns-in-Ok-clause-says : goal.returns-in-Ok-clause-says
returns-in-Ok-clause-says g c =
    says_of (λ request e. subst (Asks (bytes_each c.args.words.now)) (sym e) (record { line = c.in-Ok.ensures.line; only = c.in-Ok.ensures.only })) (λ never. absurd never) c.run_command.ensures.says

pub returns-in-Err-Bad-clause-says : goal.returns-in-Err-Bad-clause-says
returns-in-Err-Bad-clause-says g c =
    statuses.no_line
    (bad_word (bytes_each c.args.words.now) c.in-Err-Bad.index _ (c.in-Err-Bad.ensures.bad c.in-Err-Bad.index (ap Err c.in-Err-Bad.field-0-is))
    (λ word at. rw (← c.in-Err-Bad.index-is) (wrote c.write_bad.result _ _ _ _ _ (c.write_bad.ensures.ok word (rw c.in-Err-Bad.index-is at)) (c.write_bad.ensures.part word (rw c.in-Err-Bad.index-is at)) c.write_bad.ensures.failed)))

pub returns-in-Err-Missing-clause-says : goal.returns-in-Err-Missing-clause-says
returns-in-Err-Missing-clause-says g c = statuses.no_line (statuses.missing (search rules) (search rules))

pub returns-in-Err-Memory-clause-says : goal.returns-in-Err-Memory-clause-says
returns-in-Err-Memory-clause-says g c = statuses.no_memory (search rules)
