use Rattle.std.proofs.Common.{◌≡◌, rules, [], ◌∷◌, ◌++◌, map, take, sym, ap, ◌∙◌, subst}
use denote.Param.Weighed.{at_most}
use Rattle.isle_core.specs.Expr as pure_expr
use Rattle.isle_core.specs.Path.{paths_of}
use Rattle.isle_core.specs.RuleViews.{expr, exprs_of, bindings_of}
use Rattle.isle_core.specs.Scope.{IsInScope}
use Rattle.isle_rulesets.specs.RightSides.{names, bound, AreThere, Given}
use Rattle.isle_core.proofs.SeesRules.{expr-var, expr-bool, expr-int, expr-prim, expr-term}
use Rattle.isle_rulesets.proofs.RightSideLaws.{given_var, given_bool, given_int, given_prim, given_call, given_more, given_over, known_at, terms_at, there_behind, numbers_there}
use Rattle.isle_rulesets.proofs.LetLaws.{lets_first, let_seen, lets_next, lets_there, let_known, let_terms, let_given, lets_all}
use Rattle.isle_rulesets.proofs.right_side.+right_side.Goals as goal

pub number_expr-returns-in-Var-clause-numbers : goal.number_expr-returns-in-Var-clause-numbers
number_expr-returns-in-Var-clause-numbers t c =
    given_var c.args.terms.now c.args.scope.now c.args.numbering.now c.args.ordered.now.items (expr c.args.expr.now) c.in-Var.field-0 c.in-Var.var c.number_of.result
    (ap expr c.in-Var.is ∙ expr-var c.in-Var.field-0 c.in-Var.var) (search rules)

pub number_expr-returns-in-ConstBool-clause-numbers : goal.number_expr-returns-in-ConstBool-clause-numbers
number_expr-returns-in-ConstBool-clause-numbers t c =
    given_bool c.intern.result c.args.terms.now c.args.scope.now c.args.numbering.now c.intern.new.self c.args.ordered.now.items (expr c.args.expr.now) c.in-ConstBool.val
    (ap expr c.in-ConstBool.is ∙ expr-bool c.in-ConstBool.val) (search rules)

pub number_expr-returns-in-ConstInt-clause-numbers : goal.number_expr-returns-in-ConstInt-clause-numbers
number_expr-returns-in-ConstInt-clause-numbers t c =
    given_int c.intern-in-ConstInt.result c.args.terms.now c.args.scope.now c.args.numbering.now c.intern-in-ConstInt.new.self c.args.ordered.now.items (expr c.args.expr.now) c.in-ConstInt.ty c.in-ConstInt.val
    (ap expr c.in-ConstInt.is ∙ expr-int c.in-ConstInt.ty c.in-ConstInt.val) (search rules)

pub number_expr-returns-in-ConstPrim-clause-numbers : goal.number_expr-returns-in-ConstPrim-clause-numbers
number_expr-returns-in-ConstPrim-clause-numbers t c =
    given_prim c.intern-in-ConstPrim.result c.args.terms.now c.args.scope.now c.args.numbering.now c.intern-in-ConstPrim.new.self c.args.ordered.now.items (expr c.args.expr.now) c.in-ConstPrim.field-0 c.in-ConstPrim.val
    (ap expr c.in-ConstPrim.is ∙ expr-prim c.in-ConstPrim.field-0 c.in-ConstPrim.val) c.intern-in-ConstPrim.ensures

pub number_expr-number_term-requires-clause-there : goal.number_expr-number_term-requires-clause-there
number_expr-number_term-requires-clause-there t c =
    numbers_there c.args.terms.now c.args.scope.now c.args.numbering.now c.number_exprs.new.numbering c.args.ordered.now.items c.number_exprs.new.ordered.items (exprs_of (map expr c.as_slice.result.now)) c.in_ok-arguments-in-Term.arguments.items c.requires.there c.in_ok-arguments-in-Term.ensures.numbers

pub number_expr-returns-in_ok-arguments-in-Term-clause-numbers : goal.number_expr-returns-in_ok-arguments-in-Term-clause-numbers
number_expr-returns-in_ok-arguments-in-Term-clause-numbers t c =
    let same : c.in-Term.args ≡ c.as_slice.result.now = search rules in
    given_call c.number_term.result c.args.terms.now c.args.scope.now c.args.numbering.now c.number_exprs.new.numbering c.number_term.new.numbering c.args.ordered.now.items c.number_exprs.new.ordered.items c.number_term.new.ordered.items
    (expr c.args.expr.now) c.in-Term.field-0 c.in-Term.term (exprs_of (map expr c.as_slice.result.now)) c.in_ok-arguments-in-Term.arguments.items
    (ap expr c.in-Term.is ∙ expr-term c.in-Term.field-0 c.in-Term.term c.in-Term.args ∙ ap (λ es. pure_expr.Term c.in-Term.field-0 c.in-Term.term (exprs_of (map expr es))) same)
    c.in_ok-arguments-in-Term.ensures.numbers c.number_term.ensures

pub number_exprs-loop-expr-preserved : goal.number_exprs-loop-expr-preserved
number_exprs-loop-expr-preserved t c = (
  c.in_ok-number_expr.ensures.kept ∙ c.loop-expr.invariant.0,
  given_more c.args.terms.now c.args.scope.now c.args.numbering.now c.loop-expr.numbering c.number_expr.new.numbering c.args.ordered.now.items c.loop-expr.ordered.items c.number_expr.new.ordered.items
      c.args.exprs.now c.loop-expr.expr-index c.expr-item.result c.loop-expr.numbers.items c.push.new.self.items c.in_ok-number_expr.field-0 c.loop-expr-test.true c.expr-item.is c.loop-expr.invariant.1
      (subst (λ vs. Given c.args.terms.now vs c.loop-expr.numbering c.number_expr.new.numbering c.loop-expr.ordered.items c.number_expr.new.ordered.items (expr c.expr-item.result) c.in_ok-number_expr.field-0) c.loop-expr.invariant.0 c.in_ok-number_expr.ensures.numbers)
      c.in_ok-push.ensures.items,
)

pub number_exprs-returns-clause-numbers : goal.number_exprs-returns-clause-numbers
number_exprs-returns-clause-numbers t c =
    given_over c.args.terms.now c.args.scope.now c.args.numbering.now c.loop-expr.numbering c.args.ordered.now.items c.loop-expr.ordered.items c.args.exprs.now c.loop-expr.expr-index c.loop-expr.numbers.items c.loop-expr-test.false c.loop-expr.invariant.1

pub number_exprs-number_expr-requires : goal.number_exprs-number_expr-requires
number_exprs-number_expr-requires t c = (
  search (rules, at_most),
  (
    subst (λ vs. IsInScope (names vs) (expr c.expr-item.result)) (sym c.loop-expr.invariant.0) (known_at (names c.args.scope.now) c.args.exprs.now c.loop-expr.expr-index c.expr-item.result c.requires.known c.loop-expr-test.true c.expr-item.is),
    (
      terms_at c.args.terms.now c.args.exprs.now c.loop-expr.expr-index c.expr-item.result c.requires.terms c.loop-expr-test.true c.expr-item.is,
      subst (AreThere (paths_of c.loop-expr.numbering.bindings)) (sym c.loop-expr.invariant.0)
          (there_behind c.args.terms.now c.args.scope.now c.args.numbering.now c.loop-expr.numbering c.args.ordered.now.items c.loop-expr.ordered.items (exprs_of (map expr (take c.loop-expr.expr-index c.args.exprs.now))) c.loop-expr.numbers.items c.requires.there c.loop-expr.invariant.1),
    ),
  ),
)

pub number_expr-returns-in_ok-value-in-Let-clause-numbers : goal.number_expr-returns-in_ok-value-in-Let-clause-numbers
number_expr-returns-in_ok-value-in-Let-clause-numbers t c =
    let is = let_seen c.args.expr.now c.in-Let.field-0 c.in-Let.bindings c.as_slice-in-Let.result.now c.in-Let.inner c.get.result.now c.in-Let.is c.as_slice-in-Let.ensures c.get.ensures in
    let bs = bindings_of (map bound c.as_slice-in-Let.result.now) in
    let_given c.args.terms.now c.args.scope.now c.number_lets.new.scope c.args.numbering.now c.number_lets.new.numbering c.number_expr.new.numbering c.args.ordered.now.items c.number_lets.new.ordered.items c.number_expr.new.ordered.items (expr c.args.expr.now) (expr c.get.result.now)
    c.in-Let.field-0 bs c.in_ok-value-in-Let.value is c.in_ok-number_lets-in-Let.ensures.binds c.in_ok-value-in-Let.ensures.numbers

pub number_lets-number_value-requires : goal.number_lets-number_value-requires
number_lets-number_value-requires t c = (
  search (rules, at_most),
  (
    subst (λ scope. IsInScope scope (expr c.binding-item.result.val)) (sym c.loop-binding.invariant.known) (let_known (names c.args.scope.now) c.args.bindings.now c.loop-binding.binding-index c.binding-item.result c.requires.known c.loop-binding-test.true c.binding-item.is),
    (
      let_terms c.args.terms.now c.args.bindings.now c.loop-binding.binding-index c.binding-item.result c.requires.terms c.loop-binding-test.true c.binding-item.is,
      lets_there c.args.terms.now c.args.scope.now c.loop-binding.scope c.args.numbering.now c.loop-binding.numbering c.args.ordered.now.items c.loop-binding.ordered.items (bindings_of (map bound (take c.loop-binding.binding-index c.args.bindings.now))) c.requires.there c.loop-binding.invariant,
    ),
  ),
)

pub number_lets-loop-binding-preserved : goal.number_lets-loop-binding-preserved
number_lets-loop-binding-preserved t c =
    lets_next c.args.terms.now c.args.scope.now c.loop-binding.scope c.bind.new.self c.args.numbering.now c.loop-binding.numbering c.number_value.new.numbering c.args.ordered.now.items c.loop-binding.ordered.items c.number_value.new.ordered.items c.args.bindings.now c.loop-binding.binding-index
    c.binding-item.result c.in_ok-value.value c.loop-binding-test.true c.binding-item.is c.loop-binding.invariant c.in_ok-value.ensures.numbers
    (c.in_ok-bind.ensures.more ∙ ap (λ vs. vs ++ (c.index.result, c.in_ok-value.value) ∷ []) c.in_ok-value.ensures.kept ∙ ap (λ x. c.loop-binding.scope ++ (x, c.in_ok-value.value) ∷ []) c.index.ensures)

pub number_lets-returns-clause-known : goal.number_lets-returns-clause-known
number_lets-returns-clause-known t c =
    (lets_all c.args.terms.now c.args.scope.now c.loop-binding.scope c.args.numbering.now c.loop-binding.numbering c.args.ordered.now.items c.loop-binding.ordered.items c.args.bindings.now c.loop-binding.binding-index c.loop-binding-test.false c.loop-binding.invariant).known

pub number_lets-returns-clause-there : goal.number_lets-returns-clause-there
number_lets-returns-clause-there t c =
    lets_there c.args.terms.now c.args.scope.now c.loop-binding.scope c.args.numbering.now c.loop-binding.numbering c.args.ordered.now.items c.loop-binding.ordered.items (bindings_of (map bound (take c.loop-binding.binding-index c.args.bindings.now))) c.requires.there c.loop-binding.invariant

pub number_lets-returns-clause-binds : goal.number_lets-returns-clause-binds
number_lets-returns-clause-binds t c =
    lets_all c.args.terms.now c.args.scope.now c.loop-binding.scope c.args.numbering.now c.loop-binding.numbering c.args.ordered.now.items c.loop-binding.ordered.items c.args.bindings.now c.loop-binding.binding-index c.loop-binding-test.false c.loop-binding.invariant

pub number_lets-loop-binding-init : goal.number_lets-loop-binding-init
number_lets-loop-binding-init t c = lets_first c.args.terms.now c.args.scope.now c.args.numbering.now c.args.ordered.now.items
