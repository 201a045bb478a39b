use Rattle.std.proofs.Common.{rules, Some, true, false, map, ap, sym, ◌∙◌}
use Rattle.isle_core.specs.RuleViews.{iflet as elaborated}
use Rattle.isle_terms.specs.Whole.{whole}
use Rattle.isle_terms.proofs.TermSteps.{before}
use Rattle.isle_sema.specs.ElaboratedAt.{condition_tree, condition_trees}
use Rattle.isle_sema.proofs.ConditionSteps.{conditions_more, condition_more, condition_missing, conditions_all}
use Rattle.isle_sema.proofs.Steps.{same_cond}
use Rattle.isle_sema.proofs.conditions.conditions_at.Goals.{in-Some+in_ok-push-in-Some, in-None, then-complete, else-complete}
use Rattle.isle_sema.proofs.conditions.conditions_at.Goals as goal

pub loop-c-preserved : goal.loop-c-preserved
loop-c-preserved c =
    let made = conditions_more (whole c.args.known.now) c.loop-c.vars c.condition_at.new.vars c.args.given.now c.loop-c.c-index c.args.judged.now.rows c.loop-c.judged.rows c.condition_at.new.judged.rows c.loop-c.made.items c.match-branch-3.made.items c.loop-c.complete c.match-branch-3.complete
    c.c-item.result _ _ c.loop-c-test.true c.c-item.is c.in_ok-found.ensures.scope c.in_ok-found.ensures.sites in
    elim c.match-branch-3.branch [
      | in-Some+in_ok-push-in-Some w ↦ made
          (λ rest. condition_more c.loop-c.made.items c.match-branch-3.made.items w.in-Some.found c.loop-c.complete _ (ap (λ v. v.items) w.made-is ∙ w.in_ok-push-in-Some.ensures.items) (ap condition_tree (sym w.in-Some.is) ∙ c.in_ok-found.ensures.tree) rest
          ∙ same_cond (before (map elaborated c.match-branch-3.made.items) rest) c.loop-c.complete c.match-branch-3.complete (sym w.complete-is)) c.loop-c.invariant
      | in-None w ↦ made
          (λ rest. condition_missing c.loop-c.made.items c.loop-c.complete _ (ap condition_tree (sym w.in-None.is) ∙ c.in_ok-found.ensures.tree) rest
          ∙ same_cond (before (map elaborated c.match-branch-3.made.items) rest) false c.match-branch-3.complete (sym w.complete-is)) c.loop-c.invariant
    ]

pub returns : goal.returns
returns c =
    let all = conditions_all (whole c.args.known.now) c.loop-c.vars c.args.given.now c.loop-c.c-index c.args.judged.now.rows c.loop-c.judged.rows c.loop-c.made.items c.loop-c.complete _ (search rules) c.loop-c.invariant in
    let made = Some (map elaborated c.loop-c.made.items) in
    record {
      trees = elim c.if-complete.branch [
        | then-complete w ↦ ap condition_trees w.result-is ∙ sym (all.0 ∙ same_cond made c.loop-c.complete true w.if-complete.true)
        | else-complete w ↦ ap condition_trees w.result-is ∙ sym (all.0 ∙ same_cond made c.loop-c.complete false w.if-complete.false)
      ];
      scope = sym all.1;
      sites = sym all.2;
    }
