use Rattle.std.proofs.Common.{rules, refl, inr}
use Rattle.isle_command_line.specs.Views.{seen_command}
use Rattle.isle_top.specs.Jobs.{job_of}
use Rattle.isle_top.specs.Lines.{Wrote}
use Rattle.isle_top.specs.Statuses as statuses
use Rattle.isle_top.proofs.Refusals.{says_end, end_refused, end_unlisted, end_unsupported, end_want}
use Rattle.isle_top.proofs.ValidLines.{of_job}
use Rattle.isle_top.proofs.run.run_command.Goals as goal

pub returns-in-Ok-write_all-clause-says : goal.returns-in-Ok-write_all-clause-says
returns-in-Ok-write_all-clause-says g c = statuses.done (search rules)

pub returns-in-Ok-clause-says : goal.returns-in-Ok-clause-says
returns-in-Ok-clause-says g c = statuses.write_fault (search rules)

pub refuse-requires : goal.refuse-requires
refuse-requires g c = of_job c.args.line.now.tables.now (seen_command c.args.line.now.command.now) c.in-Err.refusal _ c.in-Err.ensures.err

pub returns-clause-done : goal.returns-clause-done
returns-clause-done g c = λ is.
    let wrote = Wrote (g.E.Sink.taken c.args.err.now) (g.E.Sink.taken c.refuse.new.err) (g.E.Sink.faults c.args.err.now) (g.E.Sink.faults c.refuse.new.err) in
    absurd ((end_refused (job_of c.args.line.now.tables.now (seen_command c.args.line.now.command.now)) wrote c.refuse.result.0 c.in-Err.refusal c.refuse.ensures.ends).0 is)

pub returns-clause-part : goal.returns-clause-part
returns-clause-part g c = λ is.
    let wrote = Wrote (g.E.Sink.taken c.args.err.now) (g.E.Sink.taken c.refuse.new.err) (g.E.Sink.faults c.args.err.now) (g.E.Sink.faults c.refuse.new.err) in
    absurd ((end_refused (job_of c.args.line.now.tables.now (seen_command c.args.line.now.command.now)) wrote c.refuse.result.0 c.in-Err.refusal c.refuse.ensures.ends).1 is)

pub returns-clause-unlisted : goal.returns-clause-unlisted
returns-clause-unlisted g c = λ is.
    let wrote = Wrote (g.E.Sink.taken c.args.err.now) (g.E.Sink.taken c.refuse.new.err) (g.E.Sink.faults c.args.err.now) (g.E.Sink.faults c.refuse.new.err) in
    c.in-Err.ensures.unasked (end_unlisted (job_of c.args.line.now.tables.now (seen_command c.args.line.now.command.now)) wrote c.refuse.result.0 c.in-Err.refusal c.refuse.ensures.ends is)

pub returns-clause-unsupported : goal.returns-clause-unsupported
returns-clause-unsupported g c = λ is.
    let wrote = Wrote (g.E.Sink.taken c.args.err.now) (g.E.Sink.taken c.refuse.new.err) (g.E.Sink.faults c.args.err.now) (g.E.Sink.faults c.refuse.new.err) in
    c.in-Err.ensures.unasked (end_unsupported (job_of c.args.line.now.tables.now (seen_command c.args.line.now.command.now)) wrote c.refuse.result.0 c.in-Err.refusal c.refuse.ensures.ends is)

pub returns-clause-says : goal.returns-clause-says
returns-clause-says g c = says_end (seen_command c.args.line.now.command.now) _ refl c.in-Err.refusal c.in-Err.ensures.err c.refuse.ensures.ends

pub returns-clause-complete : goal.returns-clause-complete
returns-clause-complete g c = λ valid calm.
    let wrote = Wrote (g.E.Sink.taken c.args.err.now) (g.E.Sink.taken c.refuse.new.err) (g.E.Sink.faults c.args.err.now) (g.E.Sink.faults c.refuse.new.err) in
    inr (inr (end_want (job_of c.args.line.now.tables.now (seen_command c.args.line.now.command.now)) wrote c.refuse.result.0 c.in-Err.refusal (c.in-Err.ensures.complete valid calm) c.refuse.ensures.ends))
