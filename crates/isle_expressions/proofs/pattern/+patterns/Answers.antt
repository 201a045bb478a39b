use Rattle.std.proofs.Common.{◌≡◌, ◌∙◌, rules, ap}
use Rattle.isle_reading.specs.Reader.{Got}
use Rattle.isle_reading.specs.Views.{left}
use Rattle.isle_reading.proofs.Steps.{then_got, then_comes, done_got, then_refuses, bind_refuses, passed}
use Rattle.isle_reading.proofs.ListSteps.{list-more, list-end, list-refuses}
use Rattle.isle_ast.proofs.Sees.{pattern_sees}
use Rattle.isle_grammar.specs.Reading.{read_listed, read_worded, read_symbol}
use Rattle.isle_expressions.specs.ReadingViews.{first_seen}
use Rattle.isle_expressions.proofs.PatternSteps.{pattern_none, symbol_bind, symbol_refuses}
use Rattle.isle_expressions.proofs.pattern.+patterns.Goals as goal

pub patterns-returns-in-Some : goal.patterns-returns-in-Some
patterns-returns-in-Some t c = list-end _ _ _ c.in-Some.field-0 _ _ _ _ c.loop-test.true (search rules) c.skip.ensures c.loop.invariant

pub patterns-returns-in_err-pattern-in-None : goal.patterns-returns-in_err-pattern-in-None
patterns-returns-in_err-pattern-in-None t c = passed _ _ _ _ _ c.from_residual.ensures.1 (list-refuses _ _ _ _ _ _ _ c.loop-test.true (pattern_none _ _) (search rules) c.in_err-pattern-in-None.ensures c.loop.invariant)

pub patterns-loop-preserved : goal.patterns-loop-preserved
patterns-loop-preserved t c = list-more _ _ _ _ _ _ _ _ _ _ c.loop-test.true (pattern_none _ _) (search rules) c.in_ok-pattern-in-None.ensures c.in_ok-push-in-None.ensures.items c.loop.invariant

pub list-returns-in_err-head : goal.list-returns-in_err-head
unfolding read_listed
list-returns-in_err-head t c = passed _ _ _ _ _ c.from_residual-in_err-head.ensures.1 (then_refuses _ _ _ _ _ _ c.in_ok-open.ensures (bind_refuses _ _ _ _ c.in_err-head.ensures))

pub list-returns-in_err-args : goal.list-returns-in_err-args
unfolding read_listed
list-returns-in_err-args t c = passed _ _ _ _ _ c.from_residual-in_err-args.ensures.1 (then_refuses _ _ _ _ _ _ c.in_ok-open.ensures (then_refuses _ _ _ _ _ _ c.in_ok-head.ensures (bind_refuses _ _ _ _ c.in_err-args.ensures)))

pub list-returns : goal.list-returns
unfolding read_listed
list-returns t c = then_got _ _ _ _ _ _ c.in_ok-open.ensures (then_got _ _ _ _ _ _ c.in_ok-head.ensures (then_got _ _ _ _ _ _ c.in_ok-args.ensures (search (rules, done_got))))

pub worded-returns-in-Leaf : goal.worded-returns-in-Leaf
unfolding read_worded
worded-returns-in-Leaf t c = then_got _ _ _ _ _ _ (c.in_ok-first.ensures ∙ ap (λ f. Got (first_seen f) (left c.first_word.new.tokens)) c.in-Leaf.is) (search (rules, done_got))

pub worded-returns-in-Symbol : goal.worded-returns-in-Symbol
unfolding read_worded read_symbol
worded-returns-in-Symbol t c = then_comes _ _ _ _ _ _ _ _ (c.in_ok-first.ensures ∙ ap (λ f. Got (first_seen f) (left c.first_word.new.tokens)) c.in-Symbol.is) c.symbol.ensures

pub symbol-returns-in_err-inner-in-Some : goal.symbol-returns-in_err-inner-in-Some
symbol-returns-in_err-inner-in-Some t c =
    passed _ _ _ _ _ c.from_residual.ensures.1
    (symbol_refuses c.args.most c.args.depth c.in-Some.field-0 c.args.name (left c.args.tokens.now) _ _ (search rules) (search rules) c.skip.ensures c.in_err-inner-in-Some.ensures)

pub symbol-returns-in_ok-new-in-Some : goal.symbol-returns-in_ok-new-in-Some
symbol-returns-in_ok-new-in-Some t c =
    symbol_bind c.args.most c.args.depth c.in-Some.field-0 c.args.name (left c.args.tokens.now) _ _ _ (search rules) (search rules) c.skip.ensures c.in_ok-inner-in-Some.ensures ∙ search (rules, pattern_sees)
