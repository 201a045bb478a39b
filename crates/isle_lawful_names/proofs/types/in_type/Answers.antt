use Rattle.std.proofs.Common.{◌∷◌, [], ◌∙◌, sym, subst}
use Rattle.isle_lawful_names.specs.LawfulNames.{emitted_name}
use Rattle.isle_lawful_names.specs.Claims.{OfType, part_claims}
use Rattle.isle_lawful_names.specs.Judges.{JudgesBehind}
use Rattle.isle_lawful_names.proofs.NameSteps.{behind_first, behind_then}
use Rattle.isle_lawful_names.proofs.types.in_type.Goals as goal

pub returns-then-is_some : goal.returns-then-is_some
returns-then-is_some c = λ env ruled.
    let name = emitted_name c.args.types.now c.args.def.now in
    let old = c.args.names.now in
    let new = c.name_found.new.names in
    let h = subst (λ n. JudgesBehind env (λ earlier. OfType earlier n ∷ []) (n ∷ []) old new c.in_ok-found.found) c.emitted_name.ensures (c.in_ok-found.ensures env ruled) in
    behind_first env (λ earlier. OfType earlier name ∷ []) (λ earlier. part_claims c.args.types.now c.args.def.now) (name ∷ []) (name ∷ []) old new c.in_ok-found.found h (sym c.is_some.ensures ∙ c.if-is_some.true)

pub returns : goal.returns
returns c = λ env ruled.
    let name = emitted_name c.args.types.now c.args.def.now in
    let old = c.args.names.now in
    let new = c.name_found.new.names in
    let h = subst (λ n. JudgesBehind env (λ earlier. OfType earlier n ∷ []) (n ∷ []) old new c.in_ok-found.found) c.emitted_name.ensures (c.in_ok-found.ensures env ruled) in
    behind_then env (λ earlier. OfType earlier name ∷ []) (name ∷ []) old new c.in_ok-found.found c.in_parts.result (part_claims c.args.types.now c.args.def.now) h (sym c.is_some.ensures ∙ c.if-is_some.false) (c.in_parts.ensures env)
