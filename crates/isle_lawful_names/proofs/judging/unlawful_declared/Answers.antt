use Rattle.std.proofs.Common.{◌++◌, [], ◌∙◌, refl, sym}
use Rattle.isle_core.specs.Rule.{Environment}
use Rattle.isle_core.specs.RuleViews.{environment}
use Rattle.isle_lawful_names.specs.Claims.{type_claims, term_claims, constant_claims}
use Rattle.isle_lawful_names.proofs.FoundLaws.{judged_first, judged_then}
use Rattle.isle_lawful_names.proofs.NameSteps.{none_there}
use Rattle.isle_lawful_names.proofs.judging.unlawful_declared.Goals as goal

pub unlawful_type-requires : goal.unlawful_type-requires
unlawful_type-requires c = none_there c.new-names.result c.new-names.ensures.empty

pub returns-then-is_some : goal.returns-then-is_some
returns-then-is_some c =
    let env : Environment = environment c.args.typeenv.now c.args.termenv.now in
    let types = type_claims env.types [] env.types.types in
    let terms = term_claims env 0 [] env.terms in
    let some = sym c.is_some.ensures ∙ c.if-is_some.true in
    judged_first env (types ++ terms) (constant_claims env.types env.types.consts) c.in_ok-found.found
    (judged_first env types terms c.in_ok-found.found (c.in_ok-found.ensures.first env (sym c.is_ruled.ensures)) some) some

pub returns-then-is_some-2 : goal.returns-then-is_some-2
returns-then-is_some-2 c =
    let env : Environment = environment c.args.typeenv.now c.args.termenv.now in
    let types = type_claims env.types [] env.types.types in
    let terms = term_claims env 0 [] env.terms in
    judged_first env (types ++ terms) (constant_claims env.types env.types.consts) c.in_ok-found-2.found
    (judged_then env types terms c.in_ok-found.found c.in_ok-found-2.found (c.in_ok-found.ensures.first env (sym c.is_ruled.ensures)) (sym c.is_some.ensures ∙ c.if-is_some.false) c.in_ok-found-2.ensures)
    (sym c.is_some-2.ensures ∙ c.if-is_some-2.true)

pub unlawful_constant-requires : goal.unlawful_constant-requires
unlawful_constant-requires c =
    let env : Environment = environment c.args.typeenv.now c.args.termenv.now in
    c.in_ok-found.ensures.names env (sym c.is_ruled.ensures) (sym c.is_some.ensures ∙ c.if-is_some.false)

pub returns : goal.returns
returns c =
    let env : Environment = environment c.args.typeenv.now c.args.termenv.now in
    let types = type_claims env.types [] env.types.types in
    let terms = term_claims env 0 [] env.terms in
    judged_then env (types ++ terms) (constant_claims env.types env.types.consts) c.in_ok-found-2.found c.unlawful_constant.result
    (judged_then env types terms c.in_ok-found.found c.in_ok-found-2.found (c.in_ok-found.ensures.first env (sym c.is_ruled.ensures)) (sym c.is_some.ensures ∙ c.if-is_some.false) c.in_ok-found-2.ensures)
    (sym c.is_some-2.ensures ∙ c.if-is_some-2.false) (c.unlawful_constant.ensures env refl)
