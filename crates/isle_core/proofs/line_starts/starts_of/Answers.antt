use Rattle.std.proofs.Common.{arith, rules}
use Rattle.std.proofs.lemmas.Str.Pattern.{split_once_first}
use Rattle.isle_core.proofs.LineFeeds.{feeds_more, feeds_end}
use Rattle.isle_core.proofs.line_starts.starts_of.Goals as goal

pub loop-after-preserved : goal.loop-after-preserved
loop-after-preserved c =
    let got = rw c.in-Some.is at (split_once_first 10 c.loop-after.rest.now c.split_once.result c.split_once.ensures.cases (omega arith)) in
    let more = feeds_more c.args.text.now c.loop-after.rest.now c.in-Some.after.now c.loop-after.starts.items c.push.new.self.items _ c.loop-after.invariant.0 c.loop-after.invariant.1 got.0 got.2 (search rules) in
    (more.0, more.1, search rules)

pub returns : goal.returns
returns c =
    let none = rw c.in_default.is at (split_once_first 10 c.loop-after.rest.now c.split_once.result c.split_once.ensures.cases (omega arith)) in
    feeds_end _ c.loop-after.rest.now c.loop-after.starts.items _ c.loop-after.invariant.1 none
