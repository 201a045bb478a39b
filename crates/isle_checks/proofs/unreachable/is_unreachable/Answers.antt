use Rattle.std.proofs.Common.{◌<◌, length, subst}
use Rattle.std.specs.Prelude.{◌↔◌, IsTrue}
use Rattle.std.proofs.lemmas.Result.{IfOk-weaker}
use Rattle.isle_checks.specs.Bears.{Constraints}
use Rattle.isle_checks.specs.Joined.{IsUnreachable}
use Rattle.isle_checks.specs.Classes.{representative, AreClasses, HaveClash}
use Rattle.isle_checks.proofs.ClashLaws.{few_constraints, clash_is}
use Rattle.isle_checks.proofs.unreachable.is_unreachable.Goals as goal

pub returns-then-constraints-lt2 : goal.returns-then-constraints-lt2
returns-then-constraints-lt2 c = (λ e. cc, λ h. absurd (few_constraints c.args.rule.now (subst (λ (xs : Constraints). length xs < 2) c.as_slice-constraints.ensures c.if-constraints-lt2.true) h))

pub returns : goal.returns
returns c =
    let f = c.args.rule.now in
    let classes = c.in_ok-classes.classes in
    let are : AreClasses f.equals classes = subst (λ es. AreClasses es classes) c.as_slice.ensures c.in_ok-classes.ensures in
    let law = clash_is f classes are in
    IfOk-weaker c.have_clash.result (λ found. IsTrue found ↔ HaveClash (representative classes.representatives) c.as_slice-constraints.result.now) (λ found. IsTrue found ↔ IsUnreachable f)
    (λ found h. (λ e. law.0 (subst (HaveClash (representative classes.representatives)) c.as_slice-constraints.ensures (h.0 e)), λ u. h.1 (rw c.as_slice-constraints.ensures (law.1 u)))) c.have_clash.ensures
