use Rattle.std.proofs.Common.{◌≡◌, rules, ◌≤◌, ◌++◌, length, [], ◌∷◌, map, ap, sym, ◌∙◌}
use Rattle.isle_ast.specs.Views.{defs as seen}
use Rattle.isle_declarations.specs.Terms.{terms}
use Rattle.isle_declarations.specs.TermViews.{term_def}
use Rattle.isle_terms.specs.Whole.{whole}
use Rattle.isle_terms.proofs.TermSteps.{named_here}
use Rattle.isle_sema.proofs.UseSteps.{term_more, terms_all}
use Rattle.isle_sema.proofs.template_uses.used_templates.Goals as goal

pub used_of-requires : goal.used_of-requires
used_of-requires c =
    let all : map term_def c.as_slice-term-items.result.now ≡ terms (seen c.args.known.now) = search rules in
    named_here (seen c.args.known.now) c.as_slice-term-items.result.now c.loop-term.term-index c.term-item.result _ all c.loop-term-test.true c.term-item.is

pub loop-term-preserved : goal.loop-term-preserved
loop-term-preserved c =
    let listed : c.new.result ≡ c.in_ok-used_of.field-0.items = search rules in
    term_more (whole c.args.known.now) c.as_slice-term-items.result.now c.loop-term.term-index c.loop-term.graph.items c.push.new.self.items c.in_ok-used_of.field-0.items _ c.term-item.result _ c.loop-term-test.true c.term-item.is
    (c.in_ok-push.ensures.items ∙ ap (λ x. c.loop-term.graph.items ++ x ∷ []) listed) c.in_ok-used_of.ensures c.loop-term.invariant

pub returns : goal.returns
returns c =
    let w = whole c.args.known.now in
    let end : length c.as_slice-term-items.result.now ≤ c.loop-term.term-index = search rules in
    sym (terms_all w c.as_slice-term-items.result.now c.loop-term.term-index c.loop-term.graph.items _ end c.loop-term.invariant)
