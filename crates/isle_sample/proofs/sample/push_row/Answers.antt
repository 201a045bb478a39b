use Rattle.std.proofs.Common.{◌++◌, string_bytes}
use Rattle.isle_sample.specs.Sample.{rule, row}
use Rattle.isle_sample.proofs.Ranges.{one_more}
use Rattle.isle_sample.proofs.sample.push_row.Goals as goal

pub loop-b-preserved : goal.loop-b-preserved
loop-b-preserved c =
    one_more (λ b. rule c.args.term c.args.a b) c.loop-b.b c.args.count (string_bytes c.loop-b.text) (string_bytes c.push_rule.new.text) (string_bytes c.args.text.now ++ row c.args.term c.args.a c.args.count)
    c.loop-b-test.true c.loop-b.invariant c.in_ok-push_rule.ensures
