use Rattle.std.proofs.Common.{◌≡◌, None, subst}
use Rattle.isle_terms.specs.Whole.{whole, termed}
use Rattle.isle_sema.specs.Known.{MayBeCalled}
use Rattle.isle_sema.proofs.RuleLaws.{none_called, no_term}
use Rattle.isle_sema.proofs.elaborated_rules.rule_at.Goals as goal

pub returns-in-None : goal.returns-in-None
returns-in-None c =
    let w = whole c.args.known.now in
    let o = termed w c.args.given.now.term.now in
    let none : o ≡ None = none_called w o (subst (λ x. MayBeCalled w o x) c.in-None.is (c.at.ensures c.args.given.now.term.now c.requires.number)) in
    absurd (no_term o none c.requires.declared)
