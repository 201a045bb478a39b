use Rattle.std.proofs.Common.{rules}
use Rattle.isle_checks.proofs.ErrorLaws.{shadow_joined}
use Rattle.isle_checks.proofs.errors.push_shadow.Goals as goal

pub returns-in_ok-push : goal.returns-in_ok-push
returns-in_ok-push c =
    rw c.in-Some.is (shadow_joined c.args.rules.now c.in-Some.mask c.args.place c.index-rules-mask.result c.index-rules-place.result c.args.errors.now.items c.push.new.self.items _ (search rules) c.requires.place c.shadow_error.ensures (search rules))
