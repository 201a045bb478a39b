use Rattle.isle_ast.specs.Views.{defs as seen_defs}
use Rattle.isle_terms.specs.Whole.{whole}
use Rattle.isle_terms.proofs.TermSteps.{named_here}
use Rattle.isle_sema.proofs.TemplateSteps.{term_more}
use Rattle.isle_sema.proofs.templates.by_terms.Goals as goal

pub template_for-requires-clause-named : goal.template_for-requires-clause-named
template_for-requires-clause-named c = named_here (seen_defs c.args.known.now) c.args.terms.now c.loop-term.term-index c.term-item.result _ c.requires.terms c.loop-term-test.true c.term-item.is

pub loop-term-preserved : goal.loop-term-preserved
loop-term-preserved c =
    term_more (whole c.args.known.now) c.args.terms.now c.loop-term.term-index c.loop-term.found.items c.push.new.self.items c.term-item.result _ c.in_ok-template_for.field-0 _ c.loop-term-test.true c.term-item.is c.in_ok-push.ensures.items c.in_ok-template_for.ensures c.loop-term.invariant
