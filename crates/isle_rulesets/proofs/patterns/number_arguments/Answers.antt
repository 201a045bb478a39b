use Rattle.std.proofs.Common.{map}
use Rattle.isle_core.specs.RuleViews.{pattern}
use Rattle.isle_rulesets.proofs.PatternTestLaws.{arguments_first, arguments_next, arguments_all, built_at}
use Rattle.isle_rulesets.proofs.patterns.number_arguments.Goals as goal

pub number_pattern-requires-clause-built : goal.number_pattern-requires-clause-built
number_pattern-requires-clause-built c = built_at c.args.terms.now c.args.patterns.now c.loop-index.index c.index-patterns-index.result c.requires c.loop-index-test.true c.index-patterns-index.is

pub number_pattern-requires-clause-there : goal.number_pattern-requires-clause-there
number_pattern-requires-clause-there c = (_, c.in_ok-argument.ensures.found)

pub loop-index-init : goal.loop-index-init
loop-index-init c = arguments_first c.args.terms.now c.args.numbering.now c.new-tests.result (map pattern c.args.patterns.now) c.new-tests.ensures

pub loop-index-preserved : goal.loop-index-preserved
loop-index-preserved c =
    arguments_next c.args.terms.now c.args.numbering.now c.loop-index.numbering c.intern.new.self c.number_pattern.new.numbering c.loop-index.tests c.number_pattern.new.tests (map pattern c.args.patterns.now) c.args.patterns.now c.loop-index.index c.index-patterns-index.result c.in_ok-argument.argument
    c.loop-index-test.true c.index-patterns-index.is c.loop-index.invariant c.in_ok-argument.ensures c.in_ok-number_pattern.ensures

pub returns : goal.returns
returns c = arguments_all c.args.terms.now c.args.numbering.now c.loop-index.numbering c.loop-index.tests (map pattern c.args.patterns.now) c.args.patterns.now c.loop-index.index c.loop-index-test.false c.loop-index.invariant
