use Rattle.std.proofs.Common.{◌++◌, string_bytes}
use Rattle.isle_sample.specs.Sample.{row, rows}
use Rattle.isle_sample.proofs.Ranges.{one_more}
use Rattle.isle_sample.proofs.sample.push_rows.Goals as goal

pub loop-a-preserved : goal.loop-a-preserved
loop-a-preserved c =
    one_more (λ a. row c.args.term a c.args.count) c.loop-a.a c.args.count (string_bytes c.loop-a.text) (string_bytes c.push_row.new.text) (string_bytes c.args.text.now ++ rows c.args.term c.args.count)
    c.loop-a-test.true c.loop-a.invariant c.in_ok-push_row.ensures
