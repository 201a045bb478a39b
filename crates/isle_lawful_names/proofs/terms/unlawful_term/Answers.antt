use Rattle.std.proofs.Common.{[], refl, subst}
use Rattle.std.specs.Prelude.{IfOk}
use Rattle.isle_core.specs.Rule.{Environment}
use Rattle.isle_core.specs.RuleViews.{environment}
use Rattle.isle_lawful_names.specs.Claims.{term_claims}
use Rattle.isle_lawful_names.specs.Judges.{Judges}
use Rattle.isle_lawful_names.proofs.NameSteps.{none_there}
use Rattle.isle_lawful_names.proofs.terms.unlawful_term.Goals as goal

pub in_terms-requires : goal.in_terms-requires
in_terms-requires c = none_there c.new-names.result c.new-names.ensures.empty

pub returns : goal.returns
returns c =
    let env : Environment = environment c.args.types.now c.args.termenv.now in
    subst (λ ts. IfOk c.in_terms.result (λ found. Judges env (term_claims env 0 [] ts) found)) c.as_slice.ensures (c.in_terms.ensures env refl (rw (c.as_slice.ensures, c.as_slice-2.ensures.value) c.in_ok-ruled.ensures))
