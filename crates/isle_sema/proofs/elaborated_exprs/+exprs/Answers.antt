use Rattle.std.proofs.Common.{◌≡◌, rules, refl, List, Option, Some, None, true, false, cond, length, take, map, ap, sym, ◌∙◌, subst, ◌∷◌, to_z, of_z}
use Rattle.std.specs.Prelude.{option_map, slice_get}
use Rattle.std.specs.Int.{w128}
use Rattle.isle_core.specs.RuleViews.{expr as elaborated, exprs_of as elaborated_of, bindings_of}
use Rattle.isle_core.specs.declared.TypeId.{TypeId}
use Rattle.isle_core.specs.declared.rules.LetBinding.{LetBinding}
use Rattle.isle_ast.specs.Tree as tree
use Rattle.isle_ast.specs.Tree.{Expr}
use Rattle.isle_ast.specs.declared.tree.AstExpr.{AstExpr}
use Rattle.isle_ast.specs.declared.tree.AstLet.{AstLet}
use Rattle.isle_ast.specs.Views.{expr, exprs_of, lets_of, defs as seen}
use Rattle.isle_declarations.specs.Bindings.{binding}
use Rattle.isle_declarations.specs.Signatures.{term_named}
use Rattle.isle_declarations.specs.Terms.{terms}
use Rattle.isle_terms.specs.Whole.{termed, arg_types, ret_type}
use Rattle.isle_sema.specs.ExprPass.{ExprPass, ExprsPass, integer_tree, call_tree, expr_within, count_of, expr_pass, exprs_pass}
use Rattle.isle_sema.specs.ElaboratedAt.{expr_trees, seen_binding, binding_trees}
use Rattle.isle_terms.specs.Whole.{whole}
use Rattle.isle_terms.specs.Locals.{locals_of}
use Rattle.isle_terms.specs.declared.judged.Judged.{Judged}
use Rattle.isle_terms.specs.Converters.{conversion, within}
use Rattle.isle_sema.specs.Known.{MayBeCalled}
use Rattle.isle_sema.proofs.ConvertedParts.{expr_converted}
use Rattle.isle_sema.specs.Site.{CalledAt}
use Rattle.isle_sema.specs.Judging.{judge, judge_all}
use Rattle.isle_sema.proofs.CallLaws.{counted}
use Rattle.isle_ast.proofs.Sees.{expr-number, expr-fact, expr-let}
use Rattle.isle_core.proofs.SeesRules.{expr-bool}
use Rattle.isle_declarations.proofs.LookUps.{got}
use Rattle.isle_sema.proofs.RuleLaws.{number_is}
use Rattle.isle_types.specs.Gathered.{IsBefore}
use Rattle.isle_sema.proofs.LetSteps.{bindings_before, binding_more, binding_missing, same_bindings, lets_more, lets_all, binding_made, let_given}
use Rattle.isle_sema.proofs.Steps.{exprs_before, same_cond, exprs_more, expr_more, expr_missing, exprs_all}
use Rattle.isle_sema.proofs.elaborated_exprs.+exprs.Goals.{exprs_at-in-Some+in_ok-push-in-Some, exprs_at-in-None, exprs_at-then-complete, exprs_at-else-complete, lets_at-in-Some+in_ok-push-in-Some, lets_at-in-None, lets_at-then-complete, lets_at-else-complete}
use Rattle.isle_sema.proofs.elaborated_exprs.+exprs.Goals as goal

pub call_at-returns : goal.call_at-returns
call_at-returns t c =
    let w = whole c.args.known.now in
    let o = termed w c.args.name.now in
    let es = exprs_of (map expr c.args.args.now) in
    let old = c.args.vars.now in
    let args : List (Option TypeId) → ExprsPass = λ os. exprs_pass w (locals_of old) old.next os es in
    let types : map Some c.argument_types.result.now ≡ arg_types w o = sym (c.argument_types.ensures w o c.called-callee.ensures) in
    let of : c.result_type-of.result ≡ ret_type w o = c.result_type-of.ensures w o c.called-callee.ensures in
    let by = subst (λ (ty : Option TypeId). MayBeCalled w (conversion w ty c.args.expected) c.conversion-converter.result) of c.conversion-converter.ensures in
    let from = conversion w (ret_type w o) c.args.expected in
    let made : option_map elaborated c.call_of.result ≡ call_tree (ret_type w o) (term_named (terms w.defs) c.args.name.now) (args (arg_types w o)).trees =
    c.call_of.ensures w o c.called-callee.ensures ∙ ap (λ n. call_tree (ret_type w o) n (expr_trees c.in_ok-typed.typed)) (number_is (terms w.defs) c.args.name.now)
    ∙ ap (call_tree (ret_type w o) (term_named (terms w.defs) c.args.name.now)) (c.in_ok-typed.ensures.trees ∙ ap (λ os. (args os).trees) types) in
    let inside : c.within.result ≡ within from (ret_type w o) c.args.expected = c.within.ensures w from by ∙ ap (λ ty. within from ty c.args.expected) of in
    let called : c.called.new.self.rows ≡ judge w c.called_by.new.self.rows (CalledAt (within from (ret_type w o) c.args.expected) o (count_of es)) =
    c.called.ensures w o c.called-callee.ensures ∙ ap (λ n. judge w c.called_by.new.self.rows (CalledAt c.within.result o n)) (sym (counted c.args.args.now)) ∙ ap (λ ty. judge w c.called_by.new.self.rows (CalledAt ty o (count_of es))) inside in
    expr_converted c.converted.result w c.args.expected (tree.Call c.args.name.now es) old c.exprs_at.new.vars c.args.judged.now.rows c.called_by.new.self.rows c.exprs_at.new.judged.rows from (option_map elaborated c.call_of.result)
    (CalledAt (within from (ret_type w o) c.args.expected) o (count_of es) ∷ (args (arg_types w o)).sites) (ap (expr_within w from) made) refl (c.in_ok-typed.ensures.next ∙ ap (λ os. (args os).next) types) c.in_ok-typed.ensures.patterns c.in_ok-typed.ensures.lets
    (c.called_by.ensures w from by)
    (c.in_ok-typed.ensures.sites ∙ ap (λ os. judge_all w c.called.new.self.rows (args os).sites) types ∙ ap (λ (j : Judged). judge_all w j (args (arg_types w o)).sites) called) (c.converted.ensures w from by)

pub expr_at-returns-in-Int : goal.expr_at-returns-in-Int
expr_at-returns-in-Int t c =
    let is : tree.Number c.in-Int.n ≡ expr c.args.e.now = sym (ap expr c.in-Int.is ∙ expr-number c.in-Int.n) in
    let same : to_z w128 (of_z w128 c.in-Int.n) ≡ c.in-Int.n = search rules in
    let w = whole c.args.known.now in
    let pass : Expr → ExprPass = expr_pass w (locals_of c.args.vars.now) c.args.vars.now.next c.args.expected in
    record {
      tree = c.integer_at.ensures ∙ ap (λ types. integer_tree types c.args.expected (to_z w128 (of_z w128 c.in-Int.n))) c.types-in-Int.ensures ∙ ap (integer_tree w.types c.args.expected) same ∙ ap (λ q. (pass q).tree) is;
      patterns = refl;
      lets = refl;
      next = ap (λ q. (pass q).next) is;
      sites = c.integer.ensures w c.types.ensures ∙ ap (λ q. judge_all w c.args.judged.now.rows (pass q).sites) is;
    }

pub exprs_at-loop-index-preserved : goal.exprs_at-loop-index-preserved
exprs_at-loop-index-preserved t c =
    let h = c.get.ensures.lookup in
    let at : c.copied.result ≡ slice_get c.args.types.now c.loop-index.index = c.copied.ensures ∙ got c.args.types.now c.loop-index.index c.get.result h.1 h.3 in
    let made = exprs_more (seen c.args.known.now) c.args.types.now c.args.es.now c.loop-index.index c.args.vars.now c.loop-index.vars c.expr_at.new.vars c.args.judged.now.rows c.loop-index.judged.rows c.expr_at.new.judged.rows c.loop-index.typed.items
    c.match-branch-3.typed.items c.loop-index.complete c.match-branch-3.complete c.index-es-index.result _ c.copied.result c.in_ok-found.field-0 c.loop-index-test.true c.index-es-index.is at c.in_ok-found.ensures in
    elim c.match-branch-3.branch [
      | exprs_at-in-Some+in_ok-push-in-Some w ↦ made
          (λ rest. expr_more c.loop-index.typed.items c.match-branch-3.typed.items w.in-Some.found c.loop-index.complete _ (ap (λ v. v.items) w.typed-is ∙ w.in_ok-push-in-Some.ensures.items) (ap (option_map elaborated) (sym w.in-Some.is)) rest
          ∙ same_cond (exprs_before (map elaborated c.match-branch-3.typed.items) rest) c.loop-index.complete c.match-branch-3.complete (sym w.complete-is)) c.loop-index.invariant
      | exprs_at-in-None w ↦ made
          (λ rest. expr_missing c.loop-index.typed.items c.loop-index.complete _ (ap (option_map elaborated) (sym w.in-None.is)) rest
          ∙ same_cond (exprs_before (map elaborated c.match-branch-3.typed.items) rest) false c.match-branch-3.complete (sym w.complete-is)) c.loop-index.invariant
    ]

pub exprs_at-returns : goal.exprs_at-returns
exprs_at-returns t c =
    let made = Some (elaborated_of (map elaborated c.loop-index.typed.items)) in
    exprs_all (seen c.args.known.now) c.args.types.now c.args.es.now c.loop-index.index c.args.vars.now c.loop-index.vars c.args.judged.now.rows c.loop-index.judged.rows c.loop-index.typed.items c.loop-index.complete _ (search rules)
    (elim c.if-complete.branch [
      | exprs_at-then-complete w ↦ ap expr_trees w.result-is ∙ sym (same_cond made c.loop-index.complete true w.if-complete.true)
      | exprs_at-else-complete w ↦ ap expr_trees w.result-is ∙ sym (same_cond made c.loop-index.complete false w.if-complete.false)
    ]) c.loop-index.invariant

pub expr_at-returns-in-Bool : goal.expr_at-returns-in-Bool
expr_at-returns-in-Bool t c =
    let is : tree.Fact c.in-Bool.b ≡ expr c.args.e.now = sym (ap expr c.in-Bool.is ∙ expr-fact c.in-Bool.b) in
    let w = whole c.args.known.now in
    let pass : Expr → ExprPass = expr_pass w (locals_of c.args.vars.now) c.args.vars.now.next c.args.expected in
    record {
      tree = ap Some (expr-bool c.in-Bool.b) ∙ ap (λ q. (pass q).tree) is;
      patterns = refl;
      lets = refl;
      next = ap (λ q. (pass q).next) is;
      sites = c.truth.ensures w c.types-in-Bool.ensures ∙ ap (λ q. judge_all w c.args.judged.now.rows (pass q).sites) is;
    }

pub binding_at-returns : goal.binding_at-returns
binding_at-returns t c =
    let before : IsBefore (seen c.args.known.now) c.known.inside.before.now = search rules in
    binding_made (whole c.args.known.now) c.args.l.now.var c.args.l.now.ty (expr c.args.l.now.val) c.type_named-ty.result c.args.vars.now c.number.new.self c.expr_at.new.vars c.bind.new.self c.in_ok-number.number c.args.judged.now.rows c.bound.new.self.rows
    c.expr_at.new.judged.rows c.in_ok-found.found c.binding_of.result (c.type_named-ty.ensures (seen c.args.known.now) before) c.bound.ensures c.in_ok-number.ensures.number (search rules) c.in_ok-found.ensures (search rules) c.binding_of.ensures

pub lets_at-loop-l-preserved : goal.lets_at-loop-l-preserved
lets_at-loop-l-preserved t c =
    let made = lets_more (seen c.args.known.now) c.args.lets.now c.loop-l.l-index c.args.vars.now c.loop-l.vars c.binding_at.new.vars c.args.judged.now.rows c.loop-l.judged.rows c.binding_at.new.judged.rows c.loop-l.typed.items c.match-branch-3.typed.items
    c.loop-l.complete c.match-branch-3.complete c.l-item.result _ c.in_ok-found.field-0 c.loop-l-test.true c.l-item.is c.in_ok-found.ensures in
    elim c.match-branch-3.branch [
      | lets_at-in-Some+in_ok-push-in-Some w ↦ made
          (λ rest. binding_more c.loop-l.typed.items c.match-branch-3.typed.items w.in-Some.found c.loop-l.complete _ (ap (λ v. v.items) w.typed-is ∙ w.in_ok-push-in-Some.ensures.items) (ap (option_map seen_binding) (sym w.in-Some.is)) rest
          ∙ same_bindings c.loop-l.complete c.match-branch-3.complete (map seen_binding c.match-branch-3.typed.items) rest (sym w.complete-is)) c.loop-l.invariant
      | lets_at-in-None w ↦ made
          (λ rest. binding_missing c.loop-l.typed.items c.loop-l.complete _ (ap (option_map seen_binding) (sym w.in-None.is)) rest
          ∙ ap (λ (xs : List LetBinding). cond false (bindings_before (map seen_binding xs) rest) None) (sym (ap (λ v. v.items) w.typed-is)) ∙ same_bindings false c.match-branch-3.complete (map seen_binding c.match-branch-3.typed.items) rest (sym w.complete-is)) c.loop-l.invariant
    ]

pub lets_at-returns : goal.lets_at-returns
lets_at-returns t c =
    let made = Some (bindings_of (map seen_binding c.loop-l.typed.items)) in
    lets_all (seen c.args.known.now) c.args.lets.now c.loop-l.l-index c.args.vars.now c.loop-l.vars c.args.judged.now.rows c.loop-l.judged.rows c.loop-l.typed.items c.loop-l.complete _ (search rules)
    (elim c.if-complete.branch [
      | lets_at-then-complete w ↦ ap binding_trees w.result-is ∙ sym (same_cond made c.loop-l.complete true w.if-complete.true)
      | lets_at-else-complete w ↦ ap binding_trees w.result-is ∙ sym (same_cond made c.loop-l.complete false w.if-complete.false)
    ]) c.loop-l.invariant

pub expr_at-returns-in_ok-found-in-Let : goal.expr_at-returns-in_ok-found-in-Let
expr_at-returns-in_ok-found-in-Let t c =
    let lets : c.as_slice-in-Let.result.now ≡ c.in-Let.lets = search rules in
    let inner : c.get.result.now ≡ c.in-Let.inner = search rules in
    let is : tree.Let (lets_of (map binding c.as_slice-in-Let.result.now)) (expr c.get.result.now) ≡ expr c.args.e.now =
    ap (λ (xs : List AstLet). tree.Let (lets_of (map binding xs)) (expr c.get.result.now)) lets ∙ ap (λ (x : AstExpr). tree.Let (lets_of (map binding c.in-Let.lets)) (expr x)) inner ∙ sym (ap expr c.in-Let.is ∙ expr-let c.in-Let.lets c.in-Let.inner) in
    let outer : c.len-outer.result ≡ length c.args.vars.now.lets = search rules in
    let leaves : c.truncate.new.self ≡ record { patterns = c.expr_at.new.vars.patterns; lets = take (length c.args.vars.now.lets) c.expr_at.new.vars.lets; next = c.expr_at.new.vars.next } =
    c.truncate.ensures ∙ ap (λ n. record { patterns = c.expr_at.new.vars.patterns; lets = take n c.expr_at.new.vars.lets; next = c.expr_at.new.vars.next }) outer in
    let_given (whole c.args.known.now) c.args.expected (lets_of (map binding c.as_slice-in-Let.result.now)) (expr c.get.result.now) (expr c.args.e.now) c.args.vars.now c.lets_at.new.vars c.expr_at.new.vars c.truncate.new.self c.args.judged.now.rows c.args.judged.now.rows
    c.lets_at.new.judged.rows c.expr_at.new.judged.rows c.in_ok-bindings-in-Let.bindings c.in_ok-found-in-Let.found c.let_of.result is refl c.in_ok-bindings-in-Let.ensures c.in_ok-found-in-Let.ensures leaves c.let_of.ensures
