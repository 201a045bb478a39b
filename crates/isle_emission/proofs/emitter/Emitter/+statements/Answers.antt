use Rattle.std.proofs.Common.{rules, ◌≡◌, ◌<◌, ◌+◌, [], ◌∷◌, ◌++◌, drop, Some, length, map, refl, sym, ap, ◌∙◌, subst, arith}
use Rattle.std.proofs.lemmas.List.{drop_all}
use Rattle.std.proofs.lemmas.Result.{on_ok_weaker}
use denote.Param.Weighed.{at_most}
use Rattle.isle_core.specs.declared.blocks.ControlFlow.TheViews.{out-MatchArm}
use Rattle.isle_core.specs.BlockViews.{SeenStep, SeenArm, control, block, block_of, arms_of, step, arm}
use Rattle.isle_core.specs.Block.{Equal}
use Rattle.isle_core.proofs.SeesBlocks.{step-parts, arm-parts, control-equal}
use Rattle.isle_tree.specs.Program.{Done, NoArm}
use Rattle.isle_tree.specs.Views.{stmt}
use Rattle.isle_emission.specs.BodyOnto.{body_onto}
use Rattle.isle_emission.specs.Built.{IsBuilt, IsBuiltStep, IsTested, HasRead, AreCasesBuilt}
use Rattle.isle_emission.specs.Cases.{cases_onto}
use Rattle.isle_emission.specs.MadeBodies.{made_each, control_for}
use Rattle.isle_emission.specs.Emitter.{setting_in, manner_in}
use Rattle.isle_emission.proofs.CaseSteps.{case_pushed, cases_step, case_built, cases_built, read_built, match_made}
use Rattle.isle_emission.proofs.Onto.{pushed_so}
use Rattle.isle_emission.proofs.PushedLets.{grown}
use Rattle.isle_emission.proofs.StatementSteps.{step_made, steps_step, step_built, equal_made, loop_made, some_built, arm_built, one_arm, arm_made}
use Rattle.isle_emission.proofs.emitter.Emitter.+statements.Goals as goal

pub push_step-push_lets-requires : goal.push_step-push_lets-requires
push_step-push_lets-requires t c =
    let s = setting_in c.args.self.now in
    let x = c.args.step.now in
    let seen : step x ≡ (c.as_slice-binds.result.now, control x.check) = step-parts x ∙ ap (λ bs. (bs, control x.check)) (sym c.as_slice-binds.ensures) in
    subst (λ (k : SeenStep). IsBuiltStep s c.args.bound.now k.0 k.1) seen c.requires

pub push_step-returns : goal.push_step-returns
push_step-returns t c =
    let e = c.args.self.now in
    let x = c.args.step.now in
    step_made (manner_in e) (setting_in e) x (c.as_slice-binds.result.now, control x.check) c.args.bound.now c.push_lets.new.bound c.push_control.new.bound
    c.args.out.now.items c.push_lets.new.out.items c.push_told.new.out.items c.push_control.new.out.items c.push_stop.new.out.items
    (step-parts x ∙ ap (λ bs. (bs, control x.check)) (sym c.as_slice-binds.ensures))
    c.in_ok-push_lets.ensures.lets c.in_ok-push_told.ensures c.in_ok-push_control.ensures.stmt c.in_ok-push_control.ensures.bound c.in_ok-push_stop.ensures

pub step_stmts-push_step-requires : goal.step_stmts-push_step-requires
step_stmts-push_step-requires t c = (
  search (rules, at_most),
  (step_built (setting_in c.args.self.now) c.args.steps.now c.loop-step.step-index c.step-item.result c.loop-step.bound c.loop-step-test.true c.step-item.is c.loop-step.invariant.built).0,
)

pub step_stmts-loop-step-preserved : goal.step_stmts-loop-step-preserved
step_stmts-loop-step-preserved t c =
    let e = c.args.self.now in
    let s = setting_in e in
    let h = step_built s c.args.steps.now c.loop-step.step-index c.step-item.result c.loop-step.bound c.loop-step-test.true c.step-item.is c.loop-step.invariant.built in
    record {
      stmts = λ end.
          steps_step (manner_in e) s c.args.steps.now c.loop-step.step-index c.step-item.result c.loop-step.bound c.push_step.new.bound c.loop-step.out.items c.push_step.new.out.items end
          c.loop-step-test.true c.step-item.is c.in_ok-push_step.ensures
          ∙ c.loop-step.invariant.stmts end;
      bound = grown c.args.bound.now c.loop-step.bound c.push_step.new.bound c.loop-step.invariant.bound c.in_ok-push_step.ensures.grows;
      built = subst (λ ls. IsBuilt s ls (block_of (map step (drop (c.loop-step.step-index + 1) c.args.steps.now)))) (sym c.in_ok-push_step.ensures.bound) h.1;
    }

pub push_control-returns-in-Equal-clause-stmt : goal.push_control-returns-in-Equal-clause-stmt
push_control-returns-in-Equal-clause-stmt t c =
    let e = c.args.self.now in
    let seen : control c.args.control.now ≡ Equal c.in-Equal.a c.in-Equal.b (block c.in-Equal.body) = ap control c.in-Equal.is ∙ control-equal c.in-Equal.a c.in-Equal.b c.in-Equal.body in
    on_ok_weaker c.push_equal.result (pushed_so c.args.out.now.items c.push_equal.new.out.items _ _ (ap (λ k. control_for e c.args.bound.now k) (sym seen))) c.push_equal.ensures.stmt

pub push_equal-returns-clause-stmt : goal.push_equal-returns-clause-stmt
push_equal-returns-clause-stmt t c =
    let e = c.args.self.now in
    pushed_so c.args.out.now.items c.push_equal_test.new.out.items _ _
    (equal_made (manner_in e) (setting_in e) c.args.bound.now c.block_stmts.new.bound c.args.a c.args.b (block c.args.body.now) c.in_ok-inside.inside.items c.in_ok-inside.ensures.bound c.in_ok-inside.ensures.stmts)
    c.in_ok-push_equal_test.ensures

pub push_loop-returns-clause-stmt : goal.push_loop-returns-clause-stmt
push_loop-returns-clause-stmt t c =
    let e = c.args.self.now in
    pushed_so c.args.out.now.items c.push_loop_over.new.out.items _ _
    (loop_made (manner_in e) (setting_in e) c.args.bound.now c.enter.new.bound c.args.item (block c.args.body.now) c.in_ok-inside.inside.items c.in_ok-enter.ensures.more c.in_ok-inside.ensures.stmts)
    c.in_ok-push_loop_over.ensures

pub push_arm-push_arm_test-requires : goal.push_arm-push_arm_test-requires
push_arm-push_arm_test-requires t c =
    let a = arm c.args.arm.now in
    subst (λ ls. IsTested (setting_in c.args.self.now) ls c.args.source a.0 a.1) (sym c.in_ok-inside.ensures.bound) c.requires.0

pub push_arm-returns-clause-stmt : goal.push_arm-returns-clause-stmt
push_arm-returns-clause-stmt t c =
    let e = c.args.self.now in
    let x = out-MatchArm c.args.arm.now in
    let i = body_onto (map stmt c.in_ok-inside.inside.items) (Some Done) in
    let seen : arm c.args.arm.now ≡ (x.constraint, c.as_slice-places.result.now, block x.body) = arm-parts c.args.arm.now ∙ ap (λ ps. (x.constraint, ps, block x.body)) (sym c.as_slice-places.ensures) in
    pushed_so c.args.out.now.items c.push_arm_test.new.out.items _ _
    (arm_made (manner_in e) (setting_in e) c.args.bound.now c.arm_stmts.new.bound c.args.source i c.args.arm.now (x.constraint, c.as_slice-places.result.now, block x.body)
    seen c.in_ok-inside.ensures.bound c.in_ok-inside.ensures.stmts)
    c.in_ok-push_arm_test.ensures

pub push_case-returns-clause-case : goal.push_case-returns-clause-case
push_case-returns-clause-case t c =
    let e = c.args.self.now in
    let x = out-MatchArm c.args.arm.now in
    let i = body_onto (map stmt c.in_ok-inside.inside.items) (Some Done) in
    let seen : arm c.args.arm.now ≡ (x.constraint, c.as_slice-places.result.now, block x.body) = arm-parts c.args.arm.now ∙ ap (λ ps. (x.constraint, ps, block x.body)) (sym c.as_slice-places.ensures) in
    case_pushed (manner_in e) (setting_in e) c.args.bound.now (arm c.args.arm.now) (x.constraint, c.as_slice-places.result.now, block x.body) i c.args.out.now.items c.push_arm_case.new.out.items
    seen c.in_ok-inside.ensures.stmts c.in_ok-push_arm_case.ensures

pub push_arms-bounds-arms-0 : goal.push_arms-bounds-arms-0
push_arms-bounds-arms-0 t c = some_built (setting_in c.args.self.now) c.args.bound.now c.args.source c.args.arms.now c.requires

pub push_arms-push_arm-requires : goal.push_arms-push_arm-requires
push_arms-push_arm-requires t c =
    let some : 0 < length c.args.arms.now = omega (arith, c.if-arms-eq1.true) in (
      search (rules, at_most),
      arm_built (setting_in c.args.self.now) c.args.bound.now c.args.source c.args.arms.now c.index-arms-0.result c.requires c.if-arms-eq1.true c.index-arms-0.is,
    )

pub push_arms-returns-then-arms-eq1-clause-stmt : goal.push_arms-returns-then-arms-eq1-clause-stmt
push_arms-returns-then-arms-eq1-clause-stmt t c =
    let e = c.args.self.now in
    on_ok_weaker c.push_arm.result (pushed_so c.args.out.now.items c.push_arm.new.out.items _ _ (one_arm (manner_in e) (setting_in e) c.args.bound.now c.args.source c.args.arms.now c.index-arms-0.result c.if-arms-eq1.true c.index-arms-0.is)) c.push_arm.ensures.stmt

pub push_arms-push_case-requires : goal.push_arms-push_case-requires
push_arms-push_case-requires t c = (
  search (rules, at_most),
  (case_built (setting_in c.args.self.now) c.args.arms.now c.loop-arm.arm-index c.arm-item.result c.loop-arm.bound c.loop-arm-test.true c.arm-item.is c.loop-arm.invariant.built).0,
)

pub push_arms-loop-arm-preserved : goal.push_arms-loop-arm-preserved
push_arms-loop-arm-preserved t c =
    let e = c.args.self.now in
    let s = setting_in e in
    let h = case_built s c.args.arms.now c.loop-arm.arm-index c.arm-item.result c.loop-arm.bound c.loop-arm-test.true c.arm-item.is c.loop-arm.invariant.built in
    record {
      arms =
          cases_step (manner_in e) s c.args.arms.now c.loop-arm.arm-index c.arm-item.result c.loop-arm.bound c.push_case.new.bound c.loop-arm.cases.items c.push_case.new.out.items
          c.loop-arm-test.true c.arm-item.is c.in_ok-push_case.ensures.bound c.in_ok-push_case.ensures.case
          ∙ c.loop-arm.invariant.arms;
      bound = c.in_ok-push_case.ensures.bound ∙ c.loop-arm.invariant.bound;
      built = subst (λ ls. AreCasesBuilt s ls (arms_of (map arm (drop (c.loop-arm.arm-index + 1) c.args.arms.now)))) (sym c.in_ok-push_case.ensures.bound) h.1;
    }

pub push_arms-loop-arm-init : goal.push_arms-loop-arm-init
push_arms-loop-arm-init t c =
    let e = c.args.self.now in
    record {
      arms = ap (λ ys. cases_onto ys (made_each (manner_in e) (setting_in e) c.args.bound.now (arms_of (map arm c.args.arms.now)))) c.new-cases.ensures.items;
      bound = refl;
      built = cases_built (setting_in e) c.args.bound.now c.args.source c.args.arms.now c.requires c.if-arms-eq1.false;
    }

pub push_arms-push_match-requires : goal.push_arms-push_match-requires
push_arms-push_match-requires t c =
    let s = setting_in c.args.self.now in
    let x = c.index-arms-0-2.result in
    let is : (arm x).0 ≡ (out-MatchArm x).constraint = ap (λ (k : SeenArm). k.0) (arm-parts x) in
    let there = read_built s c.args.bound.now c.args.source c.args.arms.now x c.requires c.if-arms-eq1.false c.index-arms-0-2.is in
    subst (λ y. HasRead s c.loop-arm.bound c.args.source (out-MatchArm y).constraint) c.index-arms-0-2.is
    (subst (λ ls. HasRead s ls c.args.source (out-MatchArm x).constraint) (sym c.loop-arm.invariant.bound) (subst (HasRead s c.args.bound.now c.args.source) is there))

pub push_arms-returns-clause-stmt : goal.push_arms-returns-clause-stmt
push_arms-returns-clause-stmt t c =
    let e = c.args.self.now in
    let s = setting_in e in
    let xs = c.args.arms.now in
    let x = c.index-arms-0-2.result in
    let all = made_each (manner_in e) s c.args.bound.now (arms_of (map arm xs)) in
    let is : (arm x).0 ≡ (out-MatchArm x).constraint = ap (λ (k : SeenArm). k.0) (arm-parts x) in
    let none : drop c.loop-arm.arm-index xs ≡ [] = drop_all c.loop-arm.arm-index xs c.loop-arm-test.false in
    let end : cases_onto c.loop-arm.cases.items (Some NoArm) ≡ all =
    ap (λ ys. cases_onto c.loop-arm.cases.items (made_each (manner_in e) s c.loop-arm.bound (arms_of (map arm ys)))) (sym none) ∙ c.loop-arm.invariant.arms in
    pushed_so c.args.out.now.items c.push_match.new.out.items _ _
    (match_made (manner_in e) s c.args.bound.now c.loop-arm.bound c.args.source xs x _ c.loop-arm.cases.items
    c.requires c.if-arms-eq1.false c.index-arms-0-2.is (is ∙ ap (λ y. (out-MatchArm y).constraint) c.index-arms-0-2.is) c.loop-arm.invariant.bound end)
    c.in_ok-push_match.ensures
