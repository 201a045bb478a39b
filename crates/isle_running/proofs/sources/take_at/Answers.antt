use Rattle.std.proofs.Common.{rules, ◌≡◌, Some}
use Rattle.std.specs.BTreeMap.{get_by}
use Rattle.std.specs.Cmp.Lexicographic.{slice_cmp}
use Rattle.std.specs.Ordering.{nat_cmp}
use Rattle.isle_running.proofs.SourceLaws.{takes_there}
use Rattle.isle_running.proofs.sources.take_at.Goals as goal

pub returns-in-Some : goal.returns-in-Some
returns-in-Some c =
    let there : get_by (λ k. slice_cmp nat_cmp c.args.name.now k.now) c.args.found.now ≡ Some c.in-Some.source.now = search rules in
    takes_there c.args.found.now (c.get_mut.follows.lender c.after_call.result) c.args.name.now c.in-Some.source.now c.after_call.result there c.after_call.ensures ((c.get_mut.follows.holds c.after_call.result).3 (search rules))
