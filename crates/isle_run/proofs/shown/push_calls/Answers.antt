use Rattle.std.proofs.Common.{rules, string_bytes}
use Rattle.isle_run.proofs.ImpureSteps.{lines_step}
use Rattle.isle_run.proofs.shown.push_calls.Goals as goal

pub loop-call-preserved : goal.loop-call-preserved
loop-call-preserved c env types terms =
    lines_step env c.args.calls.now c.loop-call.call-index c.call-item.result (string_bytes c.loop-call.out) (string_bytes c.push_impure.new.out) (string_bytes c.args.out.now) c.loop-call-test.true c.call-item.is (search rules) (search rules)
