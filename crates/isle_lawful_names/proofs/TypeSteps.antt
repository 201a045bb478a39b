-- Types that are judged one after another.
use Rattle.std.proofs.Common.{◌≡◌, ℕ, ◌+◌, ◌<◌, ◌≤◌, List, [], ◌∷◌, ◌++◌, length, get_or, take, drop, false, true, None, sym, ap, ◌∙◌, subst}
use Rattle.std.specs.Prelude.{is_some}
use Rattle.std.specs.List.{AllByRecursion}
use Rattle.std.specs.BTreeSet.{BTreeSet}
use Rattle.std.proofs.lemmas.List.{map-append, take_all, take_more, drop_more}
use Rattle.std.proofs.Math.ListN.{drop_of_length-le}
use denote.Ref.{Bor}
use Rattle.isle_core.specs.declared.types.TypeDef.{TypeDef}
use Rattle.isle_core.specs.declared.types.TypeEnv.{TypeEnv}
use Rattle.isle_core.specs.Rule.{Environment}
use Rattle.isle_lawful_names.specs.LawfulNames.{emitted_name, emitted_names}
use Rattle.isle_lawful_names.specs.NameSet.{HasNames}
use Rattle.isle_lawful_names.specs.Claims.{Claim, OfType, IsLawfulClaim, part_claims, type_claims}
use Rattle.isle_lawful_names.specs.Judges.{Found, Judges, JudgesBehind}
use Rattle.isle_lawful_names.proofs.FoundLaws.{Leads, leads_itself, leads_on, leads_out}

-- how far types are judged: the set has the names of those before this place, and what is found among the others is found among all
pub record TypesFrom (env : Environment) (types : TypeEnv) (i : ℕ) (set : BTreeSet (Bor (List ℕ))) : Type 0 where
  pub has : HasNames (emitted_names types (take i types.types)) set
  pub leads : Leads env (type_claims types (emitted_names types (take i types.types)) (drop i types.types)) (type_claims types [] types.types)

-- what is said of a type and its parts
abbrev pub of_type : TypeEnv → TypeDef → List (List ℕ) → List Claim
of_type types d earlier = OfType earlier (emitted_name types d) ∷ part_claims types d

pub types_begin : (env : Environment) (types : TypeEnv) (set : BTreeSet (Bor (List ℕ))) → HasNames [] set → TypesFrom env types 0 set
types_begin env types set has = record { has = has; leads = leads_itself env (type_claims types [] types.types) }

names_split : (types : TypeEnv) (ds : List TypeDef) (i : ℕ) (d : TypeDef) → i < length ds → d ≡ get_or ds i d → emitted_names types (take (i + 1) ds) ≡ emitted_names types (take i ds) ++ emitted_name types d ∷ []
names_split types ds i d lt is =
    ap (emitted_names types) (take_more ds i d lt ∙ ap (λ y. take i ds ++ y ∷ []) (sym is)) ∙ map-append (emitted_name types) (take i ds) (d ∷ [])

claims_split : (types : TypeEnv) (ds : List TypeDef) (i : ℕ) (d : TypeDef) → i < length ds → d ≡ get_or ds i d
    → type_claims types (emitted_names types (take i ds)) (drop i ds) ≡ of_type types d (emitted_names types (take i ds)) ++ type_claims types (emitted_names types (take (i + 1) ds)) (drop (i + 1) ds)
claims_split types ds i d lt is =
    let earlier = emitted_names types (take i ds) in
    ap (type_claims types earlier) (drop_more ds i d lt ∙ ap (λ y. y ∷ drop (i + 1) ds) (sym is))
    ∙ ap (λ names. of_type types d earlier ++ type_claims types names (drop (i + 1) ds)) (sym (names_split types ds i d lt is))

-- one type more
pub types_on : (env : Environment) (types : TypeEnv) (i : ℕ) (d : TypeDef) (old new : BTreeSet (Bor (List ℕ))) (found : Found) → i < length types.types → d ≡ get_or types.types i d
    → JudgesBehind env (of_type types d) (emitted_name types d ∷ []) old new found → is_some found ≡ false → TypesFrom env types i old → TypesFrom env types (i + 1) new
types_on env types i d old new found lt is j none h =
    let earlier = emitted_names types (take i types.types) in
    record {
      has = subst (λ names. HasNames names new) (sym (names_split types types.types i d lt is)) (j.more earlier h.has none);
      leads =
          leads_on env (type_claims types earlier (drop i types.types)) (of_type types d earlier) (type_claims types (emitted_names types (take (i + 1) types.types)) (drop (i + 1) types.types)) (type_claims types [] types.types) found
          (claims_split types types.types i d lt is) (j.judged earlier h.has) none h.leads;
    }

-- one of which a name is found
pub types_out : (env : Environment) (types : TypeEnv) (i : ℕ) (d : TypeDef) (old new : BTreeSet (Bor (List ℕ))) (found : Found) → i < length types.types → d ≡ get_or types.types i d
    → JudgesBehind env (of_type types d) (emitted_name types d ∷ []) old new found → is_some found ≡ true → TypesFrom env types i old → Judges env (type_claims types [] types.types) found
types_out env types i d old new found lt is j some h =
    let earlier = emitted_names types (take i types.types) in
    leads_out env (type_claims types earlier (drop i types.types)) (of_type types d earlier) (type_claims types (emitted_names types (take (i + 1) types.types)) (drop (i + 1) types.types)) (type_claims types [] types.types) found
    (claims_split types types.types i d lt is) (j.judged earlier h.has) some h.leads

-- all types
pub types_end : (env : Environment) (types : TypeEnv) (i : ℕ) (set : BTreeSet (Bor (List ℕ))) → length types.types ≤ i → TypesFrom env types i set → Judges env (type_claims types [] types.types) None
types_end env types i set past h =
    h.leads.to None (subst (λ ds. AllByRecursion (IsLawfulClaim env) (type_claims types (emitted_names types (take i types.types)) ds)) (sym (drop_of_length-le types.types past)) tt)

pub types_named : (env : Environment) (types : TypeEnv) (i : ℕ) (set : BTreeSet (Bor (List ℕ))) → length types.types ≤ i → TypesFrom env types i set → HasNames (emitted_names types types.types) set
types_named env types i set past h = subst (λ ds. HasNames (emitted_names types ds) set) (take_all i types.types past) h.has
