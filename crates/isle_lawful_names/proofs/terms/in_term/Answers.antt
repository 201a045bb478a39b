use Rattle.std.proofs.Common.{◌∙◌, sym}
use Rattle.isle_lawful_names.specs.Claims.{functions_of, function_claims, own_claims}
use Rattle.isle_lawful_names.proofs.NameSteps.{behind_first, behind_then}
use Rattle.isle_lawful_names.proofs.terms.in_term.Goals as goal

pub returns-then-is_some : goal.returns-then-is_some
returns-then-is_some c = λ env same id is.
    let fs = functions_of env c.args.term.now in
    behind_first env (λ earlier. function_claims earlier fs) (λ earlier. own_claims env id c.args.term.now) fs fs c.args.names.now c.in_functions.new.names c.in_ok-found.found (c.in_ok-found.ensures env same) (sym c.is_some.ensures ∙ c.if-is_some.true)

pub returns : goal.returns
returns c = λ env same id is.
    let fs = functions_of env c.args.term.now in
    behind_then env (λ earlier. function_claims earlier fs) fs c.args.names.now c.in_functions.new.names c.in_ok-found.found c.own_found.result (own_claims env id c.args.term.now) (c.in_ok-found.ensures env same) (sym c.is_some.ensures ∙ c.if-is_some.false)
    (c.own_found.ensures env same id is)
