use Rattle.std.proofs.Common.{ap, sym, ◌∙◌}
use Rattle.isle_numerics.specs.Meaning.{named}
use Rattle.isle_numerics.specs.Table.{own_operations}
use Rattle.isle_numerics.proofs.FindLaws.{found_first, found_later}
use Rattle.isle_numerics.proofs.eval.find.Goals as goal

pub returns-in-Some : goal.returns-in-Some
returns-in-Some c = sym (found_first c.args.signed c.args.name.now c.in-Some.op (sym c.first_named.ensures ∙ c.in-Some.is))

pub returns-in-None : goal.returns-in-None
returns-in-None c =
    c.first_named-in-None.ensures ∙ ap (λ s. named c.args.name.now (own_operations s)) (sym c.if-signed.true)
    ∙ sym (found_later c.args.signed c.args.name.now (sym c.first_named.ensures ∙ c.in-None.is))

pub returns-in-None-2 : goal.returns-in-None-2
returns-in-None-2 c =
    c.first_named-in-None-2.ensures ∙ ap (λ s. named c.args.name.now (own_operations s)) (sym c.if-signed.false)
    ∙ sym (found_later c.args.signed c.args.name.now (sym c.first_named.ensures ∙ c.in-None.is))
