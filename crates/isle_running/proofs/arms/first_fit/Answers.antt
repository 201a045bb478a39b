use Rattle.std.proofs.Common.{rules, ◌≡◌, get_or, true, false, refl, ap, ◌∙◌}
use Rattle.isle_tree.specs.Run.{run_arms}
use Rattle.isle_tree.specs.Views.{arms}
use Rattle.isle_running.specs.Frames.{Follows}
use Rattle.isle_running.specs.RunViews.{locals, within, state}
use Rattle.isle_running.proofs.MatchArms.{arm_chosen, arm_passed, none_chosen}
use Rattle.isle_running.proofs.arms.first_fit.Goals as goal

pub loop-place-init : goal.loop-place-init
loop-place-init c =
    let follows : Follows c.args.frame.now c.args.frame.now = search rules in (
      ap (λ h. run_arms (within c.args.around.now c.args.frame.now) (arms c.args.cases.now) h (locals c.args.frame.now.locals) (state c.args.frame.now)) c.in_ok-holding.ensures,
      refl,
      follows,
    )

pub returns-then-branch-clause-chosen : goal.returns-then-branch-clause-chosen
returns-then-branch-clause-chosen c =
    let fits : c.in_ok-fit.field-0 ≡ true = search rules in
    let x = get_or c.args.cases.now c.loop-place.place c.index-cases-place.result in
    arm_chosen c.args.around.now c.args.cases.now c.loop-place.place _ c.loop-place.frame _ c.loop-place.invariant.0 x c.fit.new.frame c.in_ok-fit.field-0 c.loop-place-test.true (ap (get_or c.args.cases.now c.loop-place.place) c.index-cases-place.is)
    (c.in_ok-fit.ensures.fits c.args.around.now) c.fit.ensures.calls c.fit.ensures.given c.args.frame.now fits c.loop-place.invariant.1

pub loop-place-preserved : goal.loop-place-preserved
loop-place-preserved c =
    let fits : c.in_ok-fit.field-0 ≡ false = search rules in
    let x = get_or c.args.cases.now c.loop-place.place c.index-cases-place.result in
    let kept : c.fit.new.frame.locals ≡ c.loop-place.frame.locals = c.in_ok-fit.ensures.kept fits in
    let follows : Follows c.args.frame.now c.fit.new.frame = search rules in (
      arm_passed c.args.around.now c.args.cases.now c.loop-place.place _ c.loop-place.frame _ c.loop-place.invariant.0 x c.fit.new.frame c.in_ok-fit.field-0 c.loop-place-test.true (ap (get_or c.args.cases.now c.loop-place.place) c.index-cases-place.is)
          (c.in_ok-fit.ensures.fits c.args.around.now) c.fit.ensures.calls c.fit.ensures.given fits kept,
      kept ∙ c.loop-place.invariant.1,
      follows,
    )

pub returns-clause-chosen : goal.returns-clause-chosen
returns-clause-chosen c = none_chosen c.args.around.now c.args.cases.now c.loop-place.place _ c.loop-place.frame _ c.loop-place.invariant.0 c.args.frame.now c.loop-place-test.false
