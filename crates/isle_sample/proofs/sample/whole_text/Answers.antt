use Rattle.std.proofs.Common.{string_bytes}
use Rattle.isle_sample.specs.Sample.{term_text, sample}
use Rattle.isle_sample.proofs.Ranges.{one_more}
use Rattle.isle_sample.proofs.sample.whole_text.Goals as goal

pub loop-term-preserved : goal.loop-term-preserved
loop-term-preserved c =
    one_more term_text c.loop-term.term c.args.n (string_bytes c.loop-term.text) (string_bytes c.push_term.new.text) (sample c.args.n)
    c.loop-term-test.true c.loop-term.invariant c.in_ok-push_term.ensures
