use Rattle.std.proofs.Common.{◌≡◌, rules, Some, true, false, map, ap, sym, ◌∙◌, subst, Option, to_z, of_z}
use Rattle.std.specs.Prelude.{option_map, slice_get}
use Rattle.std.specs.Int.{w128}
use Rattle.isle_core.specs.RuleViews.{pattern as elaborated}
use Rattle.isle_ast.specs.Tree as tree
use Rattle.isle_ast.specs.Views.{pattern, patterns_of, defs as seen}
use Rattle.isle_ast.proofs.Sees.{pattern-int, pattern-truth}
use Rattle.isle_core.proofs.SeesRules.{pattern-bool}
use Rattle.isle_declarations.specs.Signatures.{term_named}
use Rattle.isle_declarations.specs.Terms.{terms}
use Rattle.isle_declarations.proofs.LookUps.{got}
use Rattle.isle_sema.specs.ElaboratedAt.{pattern_trees, copies}
use Rattle.isle_sema.specs.Judging.{judge, judge_all}
use Rattle.isle_terms.specs.Whole.{whole}
use Rattle.isle_sema.specs.PatternPass.{PatternsPass, integer_tree, term_tree, and_tree, count_of, of_each, pattern_pass, patterns_pass}
use Rattle.isle_core.specs.declared.TypeId.{TypeId}
use Rattle.isle_terms.specs.Converters.{conversion, within}
use Rattle.isle_sema.specs.Known.{MayBeCalled}
use Rattle.isle_sema.proofs.ConvertedParts.{term_within}
use Rattle.isle_sema.specs.Site.{TakenAt, MetAt}
use Rattle.isle_sema.proofs.BoundPatterns.{each_expected, bound_is}
use Rattle.isle_terms.specs.Whole.{termed, arg_types, ret_type}
use Rattle.isle_sema.proofs.CallLaws.{parts_counted}
use Rattle.isle_sema.proofs.RuleLaws.{number_is}
use Rattle.isle_terms.proofs.TermSteps.{before}
use Rattle.isle_sema.proofs.Steps.{same_cond, patterns_more, pattern_more, pattern_missing, patterns_all}
use Rattle.isle_sema.proofs.elaborated_patterns.+patterns.Goals.{patterns_at-in-Some+in_ok-push-in-Some, patterns_at-in-None, patterns_at-then-complete, patterns_at-else-complete}
use Rattle.isle_sema.proofs.elaborated_patterns.+patterns.Goals as goal

pub term_at-returns : goal.term_at-returns
term_at-returns t c =
    let w = whole c.args.known.now in
    let o = termed w c.args.name.now in
    let ps = patterns_of (map pattern c.args.parts.now) in
    let old = c.args.vars.now in
    let types : map Some c.argument_types.result.now ≡ arg_types w o = sym (c.argument_types.ensures w o c.called-callee.ensures) in
    let of : c.result_type-of.result ≡ ret_type w o = c.result_type-of.ensures w o c.called-callee.ensures in
    let by = subst (λ (ty : Option TypeId). MayBeCalled w (conversion w ty c.args.expected) c.conversion-converter.result) of c.conversion-converter.ensures in
    let from = conversion w (ret_type w o) c.args.expected in
    term_within c.converted.result w c.args.expected c.args.name.now ps old c.patterns_at.new.vars c.args.judged.now.rows c.taken_by.new.self.rows c.taken.new.self.rows c.patterns_at.new.judged.rows c.within.result (option_map elaborated c.made_of.result)
    (c.taken_by.ensures w from by) (c.within.ensures w from by ∙ ap (λ ty. within from ty c.args.expected) of) (c.taken.ensures w o c.called-callee.ensures ∙ ap (λ n. judge w c.taken_by.new.self.rows (TakenAt c.within.result o n)) (sym (parts_counted c.args.parts.now)))
    (c.in_ok-typed.ensures.scope ∙ ap (λ os. (patterns_pass w os old ps).scope) types) (c.in_ok-typed.ensures.sites ∙ ap (λ os. judge_all w c.taken.new.self.rows (patterns_pass w os old ps).sites) types)
    (c.made_of.ensures w o c.called-callee.ensures ∙ ap (λ n. term_tree (ret_type w o) n (pattern_trees c.in_ok-typed.typed)) (number_is (terms w.defs) c.args.name.now)
    ∙ ap (term_tree (ret_type w o) (term_named (terms w.defs) c.args.name.now)) (c.in_ok-typed.ensures.trees ∙ ap (λ os. (patterns_pass w os old ps).trees) types)) (c.converted.ensures w from by)

pub pattern_at-returns-in-Int : goal.pattern_at-returns-in-Int
pattern_at-returns-in-Int t c =
    let is : tree.Int c.in-Int.n ≡ pattern c.args.p.now = sym (ap pattern c.in-Int.is ∙ pattern-int c.in-Int.n) in
    let same : to_z w128 (of_z w128 c.in-Int.n) ≡ c.in-Int.n = search rules in
    let w = whole c.args.known.now in
    let old = c.args.vars.now in
    record {
      tree = c.integer_at.ensures ∙ ap (λ types. integer_tree types c.args.expected (to_z w128 (of_z w128 c.in-Int.n))) c.types-in-Int.ensures ∙ ap (integer_tree w.types c.args.expected) same ∙ ap (λ q. (pattern_pass w c.args.expected old q).tree) is;
      scope = ap (λ q. (pattern_pass w c.args.expected old q).scope) is;
      sites = c.integer.ensures w c.types.ensures ∙ ap (λ q. judge_all w c.args.judged.now.rows (pattern_pass w c.args.expected old q).sites) is;
    }

pub patterns_at-loop-index-preserved : goal.patterns_at-loop-index-preserved
patterns_at-loop-index-preserved t c =
    let h = c.get.ensures.lookup in
    let at : c.copied.result ≡ slice_get c.args.types.now c.loop-index.index = c.copied.ensures ∙ got c.args.types.now c.loop-index.index c.get.result h.1 h.3 in
    let made = patterns_more (seen c.args.known.now) c.args.types.now c.loop-index.vars c.pattern_at.new.vars c.args.patterns.now c.loop-index.index c.args.judged.now.rows c.loop-index.judged.rows c.pattern_at.new.judged.rows c.loop-index.typed.items c.match-branch-3.typed.items c.loop-index.complete c.match-branch-3.complete
    c.index-patterns-index.result _ c.copied.result _ c.loop-index-test.true c.index-patterns-index.is at c.in_ok-found.ensures.scope c.in_ok-found.ensures.sites in
    elim c.match-branch-3.branch [
      | patterns_at-in-Some+in_ok-push-in-Some w ↦ made
          (λ rest. pattern_more c.loop-index.typed.items c.match-branch-3.typed.items w.in-Some.found c.loop-index.complete _ (ap (λ v. v.items) w.typed-is ∙ w.in_ok-push-in-Some.ensures.items) (ap (option_map elaborated) (sym w.in-Some.is) ∙ c.in_ok-found.ensures.tree) rest
          ∙ same_cond (before (map elaborated c.match-branch-3.typed.items) rest) c.loop-index.complete c.match-branch-3.complete (sym w.complete-is)) c.loop-index.invariant
      | patterns_at-in-None w ↦ made
          (λ rest. pattern_missing c.loop-index.typed.items c.loop-index.complete _ (ap (option_map elaborated) (sym w.in-None.is) ∙ c.in_ok-found.ensures.tree) rest
          ∙ same_cond (before (map elaborated c.match-branch-3.typed.items) rest) false c.match-branch-3.complete (sym w.complete-is)) c.loop-index.invariant
    ]

pub patterns_at-returns : goal.patterns_at-returns
patterns_at-returns t c =
    let all = patterns_all (seen c.args.known.now) c.args.types.now c.loop-index.vars c.args.patterns.now c.loop-index.index c.args.judged.now.rows c.loop-index.judged.rows c.loop-index.typed.items c.loop-index.complete _ (search rules) c.loop-index.invariant in
    let made = Some (map elaborated c.loop-index.typed.items) in
    record {
      trees = elim c.if-complete.branch [
        | patterns_at-then-complete w ↦ ap pattern_trees w.result-is ∙ sym (all.0 ∙ same_cond made c.loop-index.complete true w.if-complete.true)
        | patterns_at-else-complete w ↦ ap pattern_trees w.result-is ∙ sym (all.0 ∙ same_cond made c.loop-index.complete false w.if-complete.false)
      ];
      scope = sym all.1;
      sites = sym all.2;
    }

pub pattern_at-returns-in-Bool : goal.pattern_at-returns-in-Bool
pattern_at-returns-in-Bool t c =
    let is : tree.Truth c.in-Bool.b ≡ pattern c.args.p.now = sym (ap pattern c.in-Bool.is ∙ pattern-truth c.in-Bool.b) in
    let w = whole c.args.known.now in
    let old = c.args.vars.now in
    record {
      tree = ap Some (pattern-bool c.in-Bool.b) ∙ ap (λ q. (pattern_pass w c.args.expected old q).tree) is;
      scope = ap (λ q. (pattern_pass w c.args.expected old q).scope) is;
      sites = c.truth.ensures w c.types-in-Bool.ensures ∙ ap (λ q. judge_all w c.args.judged.now.rows (pattern_pass w c.args.expected old q).sites) is;
    }

pub and_at-returns : goal.and_at-returns
and_at-returns t c =
    let w = whole c.args.known.now in
    let old = c.args.vars.now in
    let ps = patterns_of (map pattern c.args.parts.now) in
    let types : c.as_slice.result.now ≡ copies c.args.expected (count_of ps) = c.as_slice.ensures.value ∙ c.in_ok-types.ensures ∙ ap (copies c.args.expected) (sym (parts_counted c.args.parts.now)) in
    let same : patterns_pass w (map Some c.as_slice.result.now) old ps ≡ patterns_pass w (of_each c.args.expected ps) old ps = ap (λ tys. patterns_pass w (map Some tys) old ps) types ∙ each_expected w c.args.expected old ps in
    record {
      tree = c.all_of.ensures ∙ ap (and_tree c.args.expected) (c.in_ok-typed.ensures.trees ∙ ap (λ (x : PatternsPass). x.trees) same);
      scope = c.in_ok-typed.ensures.scope ∙ ap (λ (x : PatternsPass). x.scope) same;
      sites = c.in_ok-typed.ensures.sites ∙ ap (λ (x : PatternsPass). judge_all w c.args.judged.now.rows x.sites) same;
    }

pub bind_at-returns : goal.bind_at-returns
bind_at-returns t c =
    let w = whole c.args.known.now in
    let name = c.args.name.now in
    bound_is c.bound_to.result w c.args.expected c.args.vars.now c.meet.new.self c.pattern_at-2.new.vars c.args.judged.now.rows c.met.new.self.rows c.pattern_at-2.new.judged.rows name (pattern c.args.inner.now) c.in_ok-found.found c.is_blank.result c.is_blank.ensures c.if-is_blank.false
    c.in_ok-bound.ensures.scope (c.met.ensures ∙ ap (λ b. judge w c.args.judged.now.rows (MetAt c.args.expected b)) c.in_ok-bound.ensures.bound) c.in_ok-found.ensures (search rules)
