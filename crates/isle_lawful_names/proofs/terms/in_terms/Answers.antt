use Rattle.std.proofs.Common.{◌∙◌, sym}
use Rattle.isle_lawful_names.proofs.TermSteps.{terms_begin, terms_on, terms_out, terms_end}
use Rattle.isle_lawful_names.proofs.terms.in_terms.Goals as goal

pub loop-id-init : goal.loop-id-init
loop-id-init c = λ env same table. terms_begin env c.args.terms.now c.args.names.now c.requires

pub loop-id-preserved : goal.loop-id-preserved
loop-id-preserved c = λ env same table.
    let id = c.loop-id.id in
    let ruled = c.told_at.ensures ∙ table.told id c.loop-id-test.true in
    terms_on env c.args.terms.now id c.index-terms-id.result c.loop-id.names c.in_term.new.names c.in_ok-found.found c.loop-id-test.true c.index-terms-id.is (c.in_ok-found.ensures env same id ruled) (sym c.is_some.ensures ∙ c.if-is_some.false)
    (c.loop-id.invariant env same table)

pub returns-then-is_some : goal.returns-then-is_some
returns-then-is_some c = λ env same table.
    let id = c.loop-id.id in
    let ruled = c.told_at.ensures ∙ table.told id c.loop-id-test.true in
    terms_out env c.args.terms.now id c.index-terms-id.result c.loop-id.names c.in_term.new.names c.in_ok-found.found c.loop-id-test.true c.index-terms-id.is (c.in_ok-found.ensures env same id ruled) (sym c.is_some.ensures ∙ c.if-is_some.true)
    (c.loop-id.invariant env same table)

pub returns : goal.returns
returns c = λ env same table. terms_end env c.args.terms.now c.loop-id.id c.loop-id.names c.loop-id-test.false (c.loop-id.invariant env same table)
