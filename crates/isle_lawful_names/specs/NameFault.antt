-- The first name that may not be emitted.
use Rattle.std.specs.Prelude.{◌≡◌, ℕ, List, ◌∷◌, ◌++◌}
use Rattle.std.specs.List.{AllByRecursion}
use Rattle.isle_core.specs.Rule.{Environment}
use Rattle.isle_lawful_names.specs.declared.name_error.NameError.{NameError}
use Rattle.isle_lawful_names.specs.declared.name_error.NameFail.{NameFail}
use Rattle.isle_lawful_names.specs.declared.name_error.NameFail.TheVariants as fail
use Rattle.isle_lawful_names.specs.Claims.{Claim, name_of, usage_of, IsLawfulClaim, claims}

-- all names may be emitted
abbrev pub AreLawfulNames : (files : List (List ℕ)) → Environment → Type 0
AreLawfulNames files env = AllByRecursion (IsLawfulClaim env) (claims files env)

-- the first of the names that may not be emitted
pub record IsNameFault (files : List (List ℕ)) (env : Environment) (e : NameError) : Type 0 where
  pub before : List Claim
  pub claim : Claim
  pub behind : List Claim
  pub split : claims files env ≡ before ++ claim ∷ behind
  pub lawful : AllByRecursion (IsLawfulClaim env) before
  pub unlawful : IsLawfulClaim env claim → ⊥
  pub name : e.name ≡ name_of claim
  pub usage : e.usage ≡ usage_of claim

-- why names are refused
abbrev pub IsNameFail : (files : List (List ℕ)) → Environment → NameFail → Type 0
IsNameFail files env (fail.Name e) = IsNameFault files env e
IsNameFail files env fail.Memory = Unit {0}
