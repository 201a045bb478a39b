use Rattle.std.proofs.Common.{◌≡◌, map, take}
use Rattle.isle_core.specs.RuleViews.{expr, exprs_of, bindings_of}
use Rattle.isle_rulesets.specs.RightSides.{bound, AllGiven, Binds}
use Rattle.isle_rulesets.proofs.right_side.+right_side.Given as goal

abbrev pub invariant-number_exprs-loop-expr : goal.invariant-number_exprs-loop-expr
invariant-number_exprs-loop-expr l =
    (l.scope ≡ l.fn.scope) × AllGiven l.fn.terms l.fn.scope l.fn.numbering l.numbering l.fn.ordered.items l.ordered.items (exprs_of (map expr (take l.expr-index l.exprs))) l.numbers.items

abbrev pub invariant-number_lets-loop-binding : goal.invariant-number_lets-loop-binding
invariant-number_lets-loop-binding l =
    Binds l.fn.terms l.fn.scope l.scope l.fn.numbering l.numbering l.fn.ordered.items l.ordered.items (bindings_of (map bound (take l.binding-index l.bindings)))
