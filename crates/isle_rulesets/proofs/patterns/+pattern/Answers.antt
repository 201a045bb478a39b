use Rattle.std.proofs.Common.{rules, map, sym, ap, ◌∙◌}
use denote.Param.Weighed.{at_most}
use Rattle.isle_core.specs.Path.{paths_of}
use Rattle.isle_core.specs.Pattern as pure
use Rattle.isle_core.specs.RuleViews.{pattern, patterns_of}
use Rattle.isle_core.proofs.SeesRules.{pattern-bind, pattern-var, pattern-bool, pattern-int, pattern-prim, pattern-term, pattern-and}
use Rattle.isle_rulesets.proofs.PlacedPaths.{there_kept}
use Rattle.isle_rulesets.proofs.PatternTestLaws.{takes_var, takes_bool, takes_int, takes_prim, takes_term, takes_bind, takes_and, each_first, each_next, each_all, opened_first, opened_next, opened_all, part_built, part_fits}
use Rattle.isle_rulesets.proofs.patterns.+pattern.Goals as goal

pub number_pattern-returns-in-Var : goal.number_pattern-returns-in-Var
number_pattern-returns-in-Var t c =
    takes_var c.bind_or_equate.result c.args.terms.now c.args.numbering.now c.args.tests.now c.bind_or_equate.new.tests (pattern c.args.pattern.now) c.args.source c.in-Var.field-0 c.in-Var.var
    (ap pattern c.in-Var.is ∙ pattern-var c.in-Var.field-0 c.in-Var.var) c.bind_or_equate.ensures

pub number_pattern-returns-in-ConstBool : goal.number_pattern-returns-in-ConstBool
number_pattern-returns-in-ConstBool t c =
    takes_bool c.constrain.result c.args.terms.now c.args.numbering.now c.args.tests.now c.constrain.new.tests (pattern c.args.pattern.now) c.args.source c.in-ConstBool.val
    (ap pattern c.in-ConstBool.is ∙ pattern-bool c.in-ConstBool.val) c.constrain.ensures

pub number_pattern-returns-in-ConstInt : goal.number_pattern-returns-in-ConstInt
number_pattern-returns-in-ConstInt t c =
    takes_int c.constrain-in-ConstInt.result c.args.terms.now c.args.numbering.now c.args.tests.now c.constrain-in-ConstInt.new.tests (pattern c.args.pattern.now) c.args.source c.in-ConstInt.ty c.in-ConstInt.val _
    (ap pattern c.in-ConstInt.is ∙ pattern-int c.in-ConstInt.ty c.in-ConstInt.val) c.constrain-in-ConstInt.ensures (search rules)

pub number_pattern-returns-in-ConstPrim : goal.number_pattern-returns-in-ConstPrim
number_pattern-returns-in-ConstPrim t c =
    takes_prim c.constrain-in-ConstPrim.result c.args.terms.now c.args.numbering.now c.args.tests.now c.constrain-in-ConstPrim.new.tests (pattern c.args.pattern.now) c.args.source c.in-ConstPrim.field-0 c.in-ConstPrim.val
    (ap pattern c.in-ConstPrim.is ∙ pattern-prim c.in-ConstPrim.field-0 c.in-ConstPrim.val) c.constrain-in-ConstPrim.ensures

pub number_pattern-returns-in-Term : goal.number_pattern-returns-in-Term
number_pattern-returns-in-Term t c =
    let same = sym c.as_slice.ensures in
    takes_term c.number_term.result c.args.terms.now c.args.numbering.now c.number_term.new.numbering c.args.tests.now c.number_term.new.tests (pattern c.args.pattern.now) c.args.source c.in-Term.field-0 c.in-Term.term (patterns_of (map pattern c.as_slice.result.now))
    (ap pattern c.in-Term.is ∙ pattern-term c.in-Term.field-0 c.in-Term.term c.in-Term.parts ∙ ap (λ ps. pure.Term c.in-Term.field-0 c.in-Term.term (patterns_of (map pattern ps))) same) c.number_term.ensures

pub number_pattern-returns-in_ok-bind_or_equate-in-BindPattern : goal.number_pattern-returns-in_ok-bind_or_equate-in-BindPattern
number_pattern-returns-in_ok-bind_or_equate-in-BindPattern t c =
    takes_bind c.number_pattern.result c.args.terms.now c.args.numbering.now c.number_pattern.new.numbering c.args.tests.now c.bind_or_equate-in-BindPattern.new.tests c.number_pattern.new.tests (pattern c.args.pattern.now) c.args.source c.in-BindPattern.field-0 c.in-BindPattern.var (pattern c.get.result.now)
    (ap pattern c.in-BindPattern.is ∙ pattern-bind c.in-BindPattern.field-0 c.in-BindPattern.var c.in-BindPattern.inner ∙ ap (λ p. pure.BindPattern c.in-BindPattern.field-0 c.in-BindPattern.var (pattern p)) (sym c.get.ensures))
    c.in_ok-bind_or_equate-in-BindPattern.ensures c.number_pattern.ensures

pub number_pattern-returns-in-And : goal.number_pattern-returns-in-And
number_pattern-returns-in-And t c =
    takes_and c.number_each.result c.args.terms.now c.args.numbering.now c.number_each.new.numbering c.args.tests.now c.number_each.new.tests (pattern c.args.pattern.now) c.args.source c.in-And.field-0 (patterns_of (map pattern c.as_slice-in-And.result.now))
    (ap pattern c.in-And.is ∙ pattern-and c.in-And.field-0 c.in-And.parts ∙ ap (λ ps. pure.And c.in-And.field-0 (patterns_of (map pattern ps))) (sym c.as_slice-in-And.ensures)) c.number_each.ensures

pub number_term-number_part-requires : goal.number_term-number_part-requires
number_term-number_part-requires t c = c.loop-index.invariant.there

pub number_term-number_pattern-requires : goal.number_term-number_pattern-requires
number_term-number_pattern-requires t c = (
  search (rules, at_most),
  (part_built c.args.terms.now c.args.parts.now c.loop-index.index c.index-parts-index.result c.requires.built c.loop-index-test.true c.index-parts-index.is, (_, c.in_ok-number.ensures.found)),
)

pub number_term-loop-index-init : goal.number_term-loop-index-init
number_term-loop-index-init t c =
    opened_first c.args.terms.now c.args.numbering.now c.open.new.numbering c.args.tests.now c.open.new.tests c.args.term (patterns_of (map pattern c.args.parts.now)) c.args.source c.in_ok-opened.opened
    c.requires.there c.in_ok-opened.ensures.there c.in_ok-opened.ensures.opens

pub number_term-loop-index-preserved : goal.number_term-loop-index-preserved
number_term-loop-index-preserved t c =
    opened_next c.args.terms.now c.args.numbering.now c.loop-index.numbering c.number_part.new.numbering c.number_pattern.new.numbering c.args.tests.now c.loop-index.tests c.number_pattern.new.tests c.args.term (patterns_of (map pattern c.args.parts.now)) c.args.parts.now c.loop-index.index
    c.index-parts-index.result c.args.source c.in_ok-number.number c.in_ok-opened.opened c.loop-index-test.true c.index-parts-index.is c.loop-index.invariant c.in_ok-number.ensures c.in_ok-number_pattern.ensures

pub number_term-returns : goal.number_term-returns
number_term-returns t c =
    opened_all c.args.terms.now c.args.numbering.now c.loop-index.numbering c.args.tests.now c.loop-index.tests c.args.term (patterns_of (map pattern c.args.parts.now)) c.args.parts.now c.loop-index.index c.args.source c.in_ok-opened.opened c.loop-index-test.false c.loop-index.invariant

pub number_term-overflow_cast-field : goal.number_term-overflow_cast-field
number_term-overflow_cast-field t c = let low = part_fits c.args.parts.now c.loop-index.index c.requires.few c.loop-index-test.true in search rules

pub number_each-number_pattern-requires : goal.number_each-number_pattern-requires
number_each-number_pattern-requires t c = (
  search (rules, at_most),
  (part_built c.args.terms.now c.args.parts.now c.loop-part.part-index c.part-item.result c.requires.built c.loop-part-test.true c.part-item.is, there_kept (paths_of c.args.numbering.now.bindings) (paths_of c.loop-part.numbering.bindings) c.args.source c.loop-part.invariant.extends c.requires.there),
)

pub number_each-loop-part-init : goal.number_each-loop-part-init
number_each-loop-part-init t c = each_first c.args.terms.now c.args.numbering.now c.args.tests.now (patterns_of (map pattern c.args.parts.now)) c.args.source

pub number_each-loop-part-preserved : goal.number_each-loop-part-preserved
number_each-loop-part-preserved t c =
    each_next c.args.terms.now c.args.numbering.now c.loop-part.numbering c.number_pattern.new.numbering c.args.tests.now c.loop-part.tests c.number_pattern.new.tests (patterns_of (map pattern c.args.parts.now)) c.args.parts.now c.loop-part.part-index
    c.part-item.result c.args.source c.loop-part-test.true c.part-item.is c.requires.there c.loop-part.invariant c.in_ok-number_pattern.ensures

pub number_each-returns : goal.number_each-returns
number_each-returns t c =
    each_all c.args.terms.now c.args.numbering.now c.loop-part.numbering c.args.tests.now c.loop-part.tests (patterns_of (map pattern c.args.parts.now)) c.args.parts.now c.loop-part.part-index c.args.source c.loop-part-test.false c.loop-part.invariant
