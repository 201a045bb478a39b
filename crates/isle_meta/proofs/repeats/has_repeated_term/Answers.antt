use Rattle.std.proofs.Common.{◌++◌, ◌∷◌, [], take, subst}
use Rattle.std.specs.Prelude.{◌↔◌, IsTrue, Contains}
use Rattle.isle_lawful_names.specs.NameSet.{HasNames}
use Rattle.isle_meta.proofs.RepeatedTerms.{terms_begin, terms_met, terms_on, terms_told}
use Rattle.isle_meta.proofs.repeats.has_repeated_term.Goals as goal

pub loop-term-init : goal.loop-term-init
loop-term-init c = λ earlier has. terms_begin earlier c.args.terms.now c.args.met.now has

pub loop-term-preserved : goal.loop-term-preserved
loop-term-preserved c = λ earlier has.
    let s = c.loop-term.invariant earlier has in
    let before = earlier ++ take c.loop-term.term-index c.args.terms.now in
    let fresh = subst (λ t. IsTrue c.in_ok-fresh.fresh ↔ (Contains before t → ⊥)) c.as_str.ensures (c.in_ok-fresh.ensures.fresh before s.known) in
    let more = subst (λ t. HasNames (before ++ t ∷ []) c.added.new.names) c.as_str.ensures (c.in_ok-fresh.ensures.more before s.known) in
    terms_on earlier c.args.terms.now c.loop-term.term-index c.term-item.result c.loop-term.met c.added.new.names c.loop-term.found c.in_ok-fresh.fresh c.loop-term-test.true c.term-item.is fresh more s

pub returns-clause-told : goal.returns-clause-told
returns-clause-told c = λ earlier has. terms_told earlier c.args.terms.now c.loop-term.term-index c.loop-term.met c.loop-term.found c.loop-term-test.false
    (c.loop-term.invariant earlier has)

pub returns-clause-met : goal.returns-clause-met
returns-clause-met c = λ earlier has. terms_met earlier c.args.terms.now c.loop-term.term-index c.loop-term.met c.loop-term.found c.loop-term-test.false
    (c.loop-term.invariant earlier has)
