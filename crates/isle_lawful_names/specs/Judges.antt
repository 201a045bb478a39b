-- What is found among names: nothing, or the first that may not be emitted.
use Rattle.std.specs.Prelude.{◌≡◌, ℕ, ◌<◌, [], ◌==◌, length, List, ◌∷◌, ◌++◌, Bool, false, Option, Some, None, is_some, slice_index_or}
use Rattle.std.specs.BTreeSet.{BTreeSet}
use Rattle.std.specs.List.{AllByRecursion, list_any}
use denote.Ref.{Bor}
use Rattle.isle_core.specs.Rule.{Environment, Rule}
use Rattle.isle_lawful_names.specs.NameSet.{HasNames}
use Rattle.isle_lawful_names.specs.declared.name_error.NameUse.{NameUse}
use Rattle.isle_lawful_names.specs.declared.name_error.NameFail.{NameFail}
use Rattle.isle_lawful_names.specs.declared.name_error.NameFail.TheVariants as fail
use Rattle.isle_lawful_names.specs.Claims.{Claim, name_of, usage_of, IsLawfulClaim, type_claims, term_claims, constant_claims}

-- what a search gives: a name with what it stands for, or none
abbrev pub Found : Type 0
Found = Option (NameUse × Bor (List ℕ))

-- the first of the names that may not be emitted
pub record IsFirst (env : Environment) (cs : List Claim) (found : NameUse × Bor (List ℕ)) : Type 0 where
  pub before : List Claim
  pub claim : Claim
  pub behind : List Claim
  pub split : cs ≡ before ++ claim ∷ behind
  pub lawful : AllByRecursion (IsLawfulClaim env) before
  pub unlawful : IsLawfulClaim env claim → ⊥
  pub name : found.1.now ≡ name_of claim
  pub usage : found.0 ≡ usage_of claim

-- nothing is found where all names may be emitted, and else the first that may not
abbrev pub Judges : Environment → List Claim → Found → Type 0
Judges env cs None = AllByRecursion (IsLawfulClaim env) cs
Judges env cs (Some found) = IsFirst env cs found

-- a set of earlier names goes over into another: what is found among names that are judged after the earlier ones; if nothing is, the
-- set has these names too
pub record JudgesBehind (env : Environment) (of : List (List ℕ) → List Claim) (names : List (List ℕ)) (old new : BTreeSet (Bor (List ℕ))) (found : Found) : Type 0 where
  pub judged : (earlier : List (List ℕ)) → HasNames earlier old → Judges env (of earlier) found
  pub more : (earlier : List (List ℕ)) → HasNames earlier old → is_some found ≡ false → HasNames (earlier ++ names) new

-- a table says of each of so many terms whether it has rules
pub record AreRuled (count : ℕ) (rules : List Rule) (table : List Bool) : Type 0 where
  pub long : length table ≡ count
  pub told : (n : ℕ) → n < count → slice_index_or table n false ≡ list_any (λ (r : Rule). r.root_term.0 == n) rules

-- the names of types, terms and constants
abbrev pub declared_claims : Environment → List Claim
declared_claims env = type_claims env.types [] env.types.types ++ term_claims env 0 [] env.terms ++ constant_claims env.types env.types.consts

-- what tells of a name with what it stands for, or of want of memory
abbrev pub IsTold : NameUse → List ℕ → NameFail → Type 0
IsTold usage name (fail.Name e) = (e.name ≡ name) × (e.usage ≡ usage)
IsTold usage name fail.Memory = Unit {0}
