-- How the code finds the functions that are asked by cases.
use Rattle.std.specs.Prelude.{◌≡◌, ℕ, List, Option, Some, option_map, if◌then◌else◌}
use Rattle.std.specs.BTreeMap.{BTreeMap, get_by}
use Rattle.std.specs.Cmp.Lexicographic.{slice_cmp}
use Rattle.std.specs.Ordering.{nat_cmp}
use denote.Ref.{Bor}
use Rattle.isle_core.specs.declared.types.TypeEnv.{TypeEnv}
use Rattle.isle_core.specs.declared.types.Term.{Term}
use Rattle.isle_core.specs.declared.values.Callee.{Callee}
use Rattle.isle_core.specs.declared.values.Callee.TheVariants.{External, Internal}
use Rattle.isle_core.specs.Rule.{Environment}
use Rattle.isle_core.specs.Terms.{goes_to}
use Rattle.isle_run_inputs.specs.declared.asked.Asked.{Asked as CodeAsked}
use Rattle.isle_run_inputs.specs.declared.asked.ByName.{ByName}
use Rattle.isle_run_inputs.specs.Asked.{Asked, asked_before, asked_in, first_asked}

-- what contracts see of the types of a function
abbrev pub asked_seen : CodeAsked → Asked
asked_seen a = record { params = a.params.now; results = a.results.now }

-- what a map has at a name
abbrev pub types_at : BTreeMap (Bor (List ℕ)) CodeAsked → List ℕ → Option Asked
types_at found name = option_map asked_seen (get_by (λ (k : Bor (List ℕ)). slice_cmp nat_cmp name k.now) found)

-- what the maps have for a callee
abbrev pub asked_at : ByName → Callee → Option Asked
asked_at found (External name) = types_at found.external name
asked_at found (Internal name) = types_at found.internal name

-- a function was put there, if calls go to one: of every other callee there is what was
abbrev pub IsPut : Option Callee → Asked → (old new : ByName) → Type 0
IsPut to a old new = (callee : Callee) → asked_at new callee ≡ (if goes_to callee to then Some a else asked_at old callee)

-- the maps have the first of these functions for each callee
abbrev pub HasFirst : List (Callee × Asked) → ByName → Type 0
HasFirst fns found = (callee : Callee) → asked_at found callee ≡ first_asked fns callee

-- the functions of a term were put in front of those that were there
abbrev pub ArePut : TypeEnv → Term → (old new : ByName) → Type 0
ArePut types t old new = (env : Environment) → env.types ≡ types → (fns : List (Callee × Asked)) → HasFirst fns old → HasFirst (asked_before env t fns) new

-- the maps have the first function of these terms for each callee
pub record FindsAsked (types : TypeEnv) (terms : List Term) (found : ByName) : Type 0 where
  pub finds : (env : Environment) → env.types ≡ types → HasFirst (asked_in env terms) found
