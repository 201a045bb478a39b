use Rattle.std.proofs.Common.{◌≡◌, rules, map, ap, sym, ◌∙◌}
use Rattle.isle_ast.specs.Views.{defs}
use Rattle.isle_declarations.specs.Terms.{terms}
use Rattle.isle_declarations.specs.TermViews.{term_def}
use Rattle.isle_terms.specs.Whole.{whole}
use Rattle.isle_terms.proofs.TermSteps.{term_more, term_none, named_here}
use Rattle.isle_terms.proofs.elaborated_terms.terms_of.Goals as goal

pub term_of-requires : goal.term_of-requires
term_of-requires c =
    let seen : map term_def c.as_slice-given-items.result.now ≡ terms (defs c.args.declarations.now) = ap (map term_def) c.as_slice-given-items.ensures.value ∙ c.requires.terms.seen in
    record { before = c.requires.before; named = named_here (defs c.args.declarations.now) c.as_slice-given-items.result.now c.loop-given.given-index c.given-item.result _ seen c.loop-given-test.true c.given-item.is }

pub loop-given-preserved : goal.loop-given-preserved
loop-given-preserved c =
    term_more (whole c.args.declarations.now) c.as_slice-given-items.result.now c.loop-given.given-index c.loop-given.found.items c.push.new.self.items c.given-item.result _ c.in-Some.term _ c.loop-given-test.true c.given-item.is c.in_ok-push-in-Some.ensures.items (search rules) c.loop-given.invariant

pub returns-in-None : goal.returns-in-None
returns-in-None c =
    term_none (whole c.args.declarations.now) c.as_slice-given-items.result.now c.loop-given.given-index c.loop-given.found.items c.given-item.result _ _ c.loop-given-test.true c.given-item.is (sym c.in-None.is ∙ c.in_ok-term.ensures) c.loop-given.invariant
