use Rattle.std.proofs.Common.{sym, ◌∙◌}
use Rattle.std.proofs.lemmas.Result.{on_ok_weaker}
use Rattle.isle_checks.specs.Classes.{representative, members}
use Rattle.isle_checks.proofs.ClassLaws.{ids_same, ids_differ, same_class, first_moved, second_moved}
use Rattle.isle_checks.proofs.classes.Classes.join.Goals as goal

pub returns-then-eq : goal.returns-then-eq
returns-then-eq c = λ es old.
    same_class es c.args.a c.args.b (representative c.args.self.now.representatives) (members c.args.self.now.members)
    (sym c.of-one.ensures ∙ ids_same c.of-one.result c.of-other.result (sym c.eq.ensures ∙ c.if-eq.true) ∙ c.of-other.ensures) old

pub returns-then-len : goal.returns-then-len
returns-then-len c = on_ok_weaker c.move_to.result
    (λ moves es old.
    first_moved es c.args.a c.args.b c.of-one.result c.of-other.result c.args.self.now.representatives c.move_to.new.self.representatives c.args.self.now.members c.take.new.members c.take-2.new.members c.move_to.new.self.members c.in_ok-some.some.items c.in_ok-more.more.items
    c.of-one.ensures c.of-other.ensures (ids_differ c.of-one.result c.of-other.result (sym c.eq.ensures ∙ c.if-eq.false)) c.in_ok-some.ensures.taken c.in_ok-some.ensures.puts c.in_ok-more.ensures.taken c.in_ok-more.ensures.puts old moves.relabels moves.puts)
    c.move_to.ensures

pub returns-else-len : goal.returns-else-len
returns-else-len c = on_ok_weaker c.move_to-else-len.result
    (λ moves es old.
    second_moved es c.args.a c.args.b c.of-one.result c.of-other.result c.args.self.now.representatives c.move_to-else-len.new.self.representatives c.args.self.now.members c.take.new.members c.take-2.new.members c.move_to-else-len.new.self.members c.in_ok-some.some.items c.in_ok-more.more.items
    c.of-one.ensures c.of-other.ensures (ids_differ c.of-one.result c.of-other.result (sym c.eq.ensures ∙ c.if-eq.false)) c.in_ok-some.ensures.taken c.in_ok-some.ensures.puts c.in_ok-more.ensures.taken c.in_ok-more.ensures.puts old moves.relabels moves.puts)
    c.move_to-else-len.ensures
