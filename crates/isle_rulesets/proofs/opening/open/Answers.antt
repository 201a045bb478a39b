use Rattle.std.proofs.Common.{◌≡◌, [], ◌∷◌, sym, ap, ◌∙◌, subst}
use Rattle.isle_core.specs.Making.{making_in}
use Rattle.isle_core.specs.Tests.{Is}
use Rattle.isle_rulesets.specs.Made.{seen, making_of}
use Rattle.isle_rulesets.proofs.PatternTestLaws.{Steps}
use Rattle.isle_rulesets.proofs.OpenedLaws.{opens_made}
use Rattle.isle_rulesets.proofs.opening.open.Goals as goal

pub returns-in_ok-constrain-in-Some-clause-opens : goal.returns-in_ok-constrain-in-Some-clause-opens
returns-in_ok-constrain-in-Some-clause-opens c =
    let making : making_in c.args.terms.now c.args.term ≡ making_of c.in-Some.made = sym c.made_by.ensures ∙ ap seen c.in-Some.is in
    opens_made c.args.terms.now c.args.numbering.now c.args.tests.now c.constrain.new.tests c.args.term c.in-Some.made c.args.source making
    (subst (λ k. Steps c.args.tests.now c.constrain.new.tests c.args.source (λ p places. places) (λ p places. Is p k ∷ [])) c.constraint.ensures c.in_ok-constrain-in-Some.ensures)
