use Rattle.std.proofs.Common.{refl, subst}
use Rattle.std.proofs.lemmas.List.{take_all}
use Rattle.isle_checks.specs.Bears.{Constraints}
use Rattle.isle_checks.specs.Classes.{representative}
use Rattle.isle_checks.proofs.ClashLaws.{AreSeen, next_seen, next_clash, no_clash}
use Rattle.isle_checks.proofs.unreachable.have_clash.Goals as goal

pub returns-then-not-agrees : goal.returns-then-not-agrees
returns-then-not-agrees c = (
  λ e. next_clash (representative c.args.classes.now.representatives) c.args.constraints.now c.loop-x.x-index _ c.of.result c.loop-x.seen c.note.new.seen c.in_ok-agrees.agrees c.loop-x-test.true c.of.ensures c.in_ok-agrees.ensures.agrees c.loop-x.invariant c.if-not-agrees.true,
  λ h. refl,
)

pub loop-x-preserved : goal.loop-x-preserved
loop-x-preserved c =
    next_seen (representative c.args.classes.now.representatives) c.args.constraints.now c.loop-x.x-index _ c.of.result c.loop-x.seen c.note.new.seen c.in_ok-agrees.agrees c.loop-x-test.true c.of.ensures c.in_ok-agrees.ensures.agrees c.loop-x.invariant c.if-not-agrees.false c.in_ok-agrees.ensures.noted

pub returns : goal.returns
returns c =
    let all = subst (λ (xs : Constraints). AreSeen (representative c.args.classes.now.representatives) xs c.loop-x.seen) (take_all c.loop-x.x-index c.args.constraints.now c.loop-x-test.false) c.loop-x.invariant in
    (λ e. cc, λ h. absurd (no_clash (representative c.args.classes.now.representatives) c.args.constraints.now c.loop-x.seen all h))
