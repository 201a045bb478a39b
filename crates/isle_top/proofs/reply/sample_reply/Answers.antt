use Rattle.isle_top.proofs.Counts.{sample_want}
use Rattle.isle_top.proofs.reply.sample_reply.Goals as goal

pub returns-in-Err-clause-err : goal.returns-in-Err-clause-err
returns-in-Err-clause-err c = sample_want c.args.size c.in-Err.e c.in-Err.ensures.err
