use Rattle.std.proofs.Common.{[], refl, sym, subst}
use Rattle.isle_pulley_rows.specs.Told.{AreTermed}
use Rattle.isle_pulley_rows.proofs.terms.with_terms.Goals as goal

pub returns : goal.returns
returns c = c.in_ok-push_termed-2.ensures c.args.ops.now (c.in_ok-push_termed.ensures [] (subst (λ ts. AreTermed ts []) (sym c.new-found.ensures.items) refl))
