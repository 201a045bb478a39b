use Rattle.std.proofs.Common.{rules}
use Rattle.isle_checks.proofs.ErrorLaws.{overlap_joined}
use Rattle.isle_checks.proofs.errors.push_overlap.Goals as goal

pub returns-in_ok-push : goal.returns-in_ok-push
returns-in_ok-push c =
    rw c.in-Some.is (overlap_joined c.args.term.now.rules.now c.in-Some.earlier c.args.place c.index-rules-earlier.result c.index-rules-place.result c.args.errors.now.items c.push.new.self.items _ (search rules) c.requires.place c.in_ok-overlap_error.ensures (search rules))
