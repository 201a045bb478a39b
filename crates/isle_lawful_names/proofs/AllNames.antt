-- All names, in order.
use Rattle.std.proofs.Common.{◌≡◌, ℕ, List, [], ◌++◌, ap, ◌∙◌, append_assoc}
use denote.Ref.{Bor}
use Rattle.isle_core.specs.Rule.{Environment}
use Rattle.isle_lawful_names.specs.declared.name_error.NameFail.{NameFail}
use Rattle.isle_lawful_names.specs.declared.name_error.NameFail.TheVariants as fail
use Rattle.isle_lawful_names.specs.declared.name_error.NameUse.{NameUse}
use Rattle.isle_lawful_names.specs.Claims.{file_claims, type_claims, term_claims, constant_claims, claims}
use Rattle.isle_lawful_names.specs.Judges.{IsFirst, IsTold, declared_claims}
use Rattle.isle_lawful_names.specs.NameFault.{IsNameFail}

-- files come before all else
pub claims_split : (files : List (List ℕ)) (env : Environment) → claims files env ≡ file_claims files ++ declared_claims env
claims_split files env =
    let types = type_claims env.types [] env.types.types in
    let terms = term_claims env 0 [] env.terms in
    let consts = constant_claims env.types env.types.consts in
    ap (λ cs. cs ++ consts) (append_assoc (file_claims files) types terms) ∙ append_assoc (file_claims files) (types ++ terms) consts

-- what is found is told
pub told : (files : List (List ℕ)) (env : Environment) (usage : NameUse) (name : Bor (List ℕ)) (e : NameFail) → IsFirst env (claims files env) (usage, name) → IsTold usage name.now e → IsNameFail files env e
told files env usage name (fail.Name e) h t =
    record { before = h.before; claim = h.claim; behind = h.behind; split = h.split; lawful = h.lawful; unlawful = h.unlawful; name = t.0 ∙ h.name; usage = t.1 ∙ h.usage }
told files env usage name fail.Memory h t = tt
