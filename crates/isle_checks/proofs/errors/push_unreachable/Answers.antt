use Rattle.std.proofs.Common.{rules}
use Rattle.isle_checks.proofs.ErrorLaws.{unreachable_joined}
use Rattle.isle_checks.proofs.errors.push_unreachable.Goals as goal

pub returns-in_ok-push : goal.returns-in_ok-push
returns-in_ok-push c =
    rw c.if-unreachable.true (unreachable_joined c.args.rules.now c.args.place c.index-rules-place.result c.args.errors.now.items c.push.new.self.items _ c.requires c.in_ok-unreachable_error.ensures (search rules))
