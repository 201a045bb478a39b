use Rattle.std.proofs.Common.{[], rules, map, subst}
use Rattle.isle_core.specs.RuleViews.{pattern as elaborated}
use Rattle.isle_templates.specs.NodeCount.{pattern_nodes}
use Rattle.isle_templates.specs.SameCount.{SameCount}
use Rattle.isle_templates.specs.Substituted.{expanded, substituted}
use Rattle.isle_templates.proofs.ExpansionSteps.{term_seen, and_seen}
use Rattle.isle_templates.proofs.WholeNodeSteps.{and_base, each_more, opened_all, opened_more}
use Rattle.isle_templates.proofs.whole_nodes.+counting.Goals as goal

pub all_whole_nodes-loop-p-preserved : goal.all_whole_nodes-loop-p-preserved
all_whole_nodes-loop-p-preserved t c = λ whole stands.
    each_more (expanded whole) c.args.parts.now c.loop-p.p-index c.p-item.result c.loop-p.nodes c.whole_nodes.result c.saturating_add-nodes.result c.loop-p-test.true c.p-item.is (c.loop-p.invariant whole stands) (c.whole_nodes.ensures whole stands) c.saturating_add-nodes.ensures

pub opened_nodes-loop-parameter-preserved : goal.opened_nodes-loop-parameter-preserved
opened_nodes-loop-parameter-preserved t c = λ whole inner template stands kept.
    opened_more (expanded whole) c.args.args.now c.loop-parameter.parameter c.index-args-parameter.result inner template c.args.kept.now c.loop-parameter.nodes c.whole_nodes.result c.saturating_sub-more.result c.saturating_mul.result c.saturating_add-nodes.result kept c.loop-parameter-test.true c.index-args-parameter.is
    (c.loop-parameter.invariant whole inner template stands kept) (c.whole_nodes.ensures whole stands) (search rules) (search rules) c.saturating_add-nodes.ensures

pub opened_nodes-returns : goal.opened_nodes-returns
opened_nodes-returns t c = λ whole inner template stands kept.
    opened_all (expanded whole) c.args.args.now c.loop-parameter.parameter inner template c.args.kept.now c.loop-parameter.nodes kept c.loop-parameter-test.false (c.loop-parameter.invariant whole inner template stands kept)

pub whole_nodes-returns-in-Term : goal.whole_nodes-returns-in-Term
whole_nodes-returns-in-Term t c = λ whole stands.
    subst (λ q. SameCount c.term_nodes.result (pattern_nodes (substituted [] q)))
    (term_seen whole c.args.template.now c.in-Term.field-0 c.in-Term.term c.in-Term.parts c.as_slice.result.now c.in-Term.is c.as_slice.ensures) (c.term_nodes.ensures whole c.in-Term.field-0 stands)

pub whole_nodes-returns-in-And : goal.whole_nodes-returns-in-And
whole_nodes-returns-in-And t c = λ whole stands.
    subst (λ q. SameCount c.saturating_add-in-And.result (pattern_nodes (substituted [] q)))
    (and_seen whole c.args.template.now c.in-And.field-0 c.in-And.parts c.as_slice-in-And.result.now c.in-And.is (search rules))
    (and_base (map (expanded whole) (map elaborated c.as_slice-in-And.result.now)) c.all_whole_nodes.result c.saturating_add-in-And.result (c.all_whole_nodes.ensures whole stands) (search rules))
