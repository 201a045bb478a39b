use Rattle.std.proofs.Common.{rules}
use Rattle.isle_run_inputs.proofs.AskedTerms.{put_external, put_internal}
use Rattle.isle_run_inputs.proofs.asked.ByName.put.Goals as goal

pub returns-in_ok-insert-in-External : goal.returns-in_ok-insert-in-External
returns-in_ok-insert-in-External c =
    put_external c.args.callee c.in-External.name c.args.asked c.args.self.now.external c.insert.new.self c.args.self.now.internal (search rules) c.in_ok-insert-in-External.ensures.updates

pub returns-in_ok-insert-in-Internal : goal.returns-in_ok-insert-in-Internal
returns-in_ok-insert-in-Internal c =
    put_internal c.args.callee c.in-Internal.name c.args.asked c.args.self.now.external c.args.self.now.internal c.insert-in-Internal.new.self (search rules) c.in_ok-insert-in-Internal.ensures.updates
