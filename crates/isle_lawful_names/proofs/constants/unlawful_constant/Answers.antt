use Rattle.std.proofs.Common.{◌<◌, ◌≤◌, [], ◌∷◌, length, get_or, ◌∙◌, sym, subst}
use Rattle.isle_core.specs.declared.Sym.{Sym}
use Rattle.isle_core.specs.declared.TypeId.{TypeId}
use Rattle.isle_core.specs.declared.types.TypeEnv.{TypeEnv}
use Rattle.isle_core.specs.Terms.{symbol_text}
use Rattle.isle_lawful_names.specs.LawfulNames.{emitted_names}
use Rattle.isle_lawful_names.specs.NameSet.{HasNames}
use Rattle.isle_lawful_names.specs.Claims.{Claim, OfConstant, constant_claims}
use Rattle.isle_lawful_names.specs.Judges.{Judges}
use Rattle.isle_lawful_names.proofs.FoundLaws.{leads_itself, one_on_at, one_out_at, one_end}
use Rattle.isle_lawful_names.proofs.constants.unlawful_constant.Goals as goal

-- a constant's name
abbrev named : TypeEnv → Sym × TypeId → Claim
named types k = OfConstant (symbol_text types k.0)

-- what stands in place of a constant that is not there
abbrev none : Sym × TypeId
none = (record { 0 = 0 }, record { 0 = 0 })

pub loop-constant-init : goal.loop-constant-init
loop-constant-init c = λ env same. leads_itself env (constant_claims c.args.types.now c.args.types.now.consts)

pub loop-constant-preserved : goal.loop-constant-preserved
loop-constant-preserved c = λ env same.
    let i = c.loop-constant.constant-index in
    let found = c.constant_found-found.result in
    let lt = subst (λ ks. i < length ks) c.as_slice-constant-items.ensures c.loop-constant-test.true in
    let has = subst (λ (types : TypeEnv). HasNames (emitted_names types types.types) c.args.names.now) (sym same) c.requires in
    one_on_at env (named c.args.types.now) c.args.types.now.consts i none found lt
    (subst (λ ks. Judges env (named c.args.types.now (get_or ks i none) ∷ []) found) c.as_slice-constant-items.ensures (subst (λ n. Judges env (OfConstant n ∷ []) found) c.symbol.ensures (c.constant_found-found.ensures env has))) (sym c.is_some.ensures ∙ c.if-is_some.false) (c.loop-constant.invariant env same)

pub returns-then-is_some : goal.returns-then-is_some
returns-then-is_some c = λ env same.
    let i = c.loop-constant.constant-index in
    let found = c.constant_found-found.result in
    let lt = subst (λ ks. i < length ks) c.as_slice-constant-items.ensures c.loop-constant-test.true in
    let has = subst (λ (types : TypeEnv). HasNames (emitted_names types types.types) c.args.names.now) (sym same) c.requires in
    one_out_at env (named c.args.types.now) c.args.types.now.consts i none found lt
    (subst (λ ks. Judges env (named c.args.types.now (get_or ks i none) ∷ []) found) c.as_slice-constant-items.ensures (subst (λ n. Judges env (OfConstant n ∷ []) found) c.symbol.ensures (c.constant_found-found.ensures env has))) (sym c.is_some.ensures ∙ c.if-is_some.true) (c.loop-constant.invariant env same)

pub returns : goal.returns
returns c = λ env same.
    let i = c.loop-constant.constant-index in
    one_end env (named c.args.types.now) c.args.types.now.consts i (subst (λ ks. length ks ≤ i) c.as_slice-constant-items.ensures c.loop-constant-test.false) (c.loop-constant.invariant env same)
