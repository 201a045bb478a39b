use Rattle.std.proofs.Common.{rules}
use Rattle.std.specs.BTreeMap.Entry.{map_with_value}
use Rattle.isle_checks.specs.Lists.{AddsUnder}
use Rattle.isle_checks.proofs.ListLaws.{added, pushed_there}
use Rattle.isle_checks.proofs.lists.push_under.Goals as goal

pub returns : goal.returns
returns c =
    let entered = c.in_ok-under.ensures in
    let list = c.or_insert-list.result.now in
    let new = map_with_value c.in_ok-under.field-0 c.push.new.self in
    let adds : AddsUnder c.args.key c.args.placed c.args.under.now new = added c.args.under.now new c.args.key c.args.placed c.push.new.self
    (pushed_there c.args.under.now c.args.key c.args.placed _ c.new.result list c.push.new.self entered.value c.new.ensures c.or_insert-list.ensures.value c.in_ok-push.ensures)
    (entered.update.0 c.push.new.self) in
    search (rules, adds)
