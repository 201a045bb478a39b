-- How the code finds the types of what callees answer.
use Rattle.std.specs.Prelude.{◌≡◌, ℕ, List, Option}
use Rattle.std.specs.BTreeMap.{BTreeMap, get_by}
use Rattle.std.specs.Cmp.Lexicographic.{slice_cmp}
use Rattle.std.specs.Ordering.{nat_cmp}
use denote.Ref.{Bor}
use Rattle.isle_core.specs.declared.TypeId.{TypeId}
use Rattle.isle_core.specs.declared.types.TypeEnv.{TypeEnv}
use Rattle.isle_core.specs.declared.types.Term.{Term}
use Rattle.isle_core.specs.declared.values.Callee.TheVariants.{External, Internal}
use Rattle.isle_core.specs.Rule.{Environment}
use Rattle.isle_run_inputs.specs.Requested.{first_type}

-- so for every environment with these types and terms
abbrev pub OfTypes : TypeEnv × List Term → (Environment → Type 0) → Type 0
OfTypes known P = (env : Environment) → env.types ≡ known.0 → env.terms ≡ known.1 → P env

-- what the map has at a name
abbrev pub type_at : BTreeMap (Bor (List ℕ)) TypeId → List ℕ → Option TypeId
type_at found name = get_by (λ (k : Bor (List ℕ)). slice_cmp nat_cmp name k.now) found

-- the maps have the type of the first term of each callee
pub record FindsTypes (types : TypeEnv) (terms : List Term) (external internal : BTreeMap (Bor (List ℕ)) TypeId) : Type 0 where
  pub externals : (env : Environment) → env.types ≡ types → (name : List ℕ) → type_at external name ≡ first_type env terms (External name)
  pub internals : (env : Environment) → env.types ≡ types → (name : List ℕ) → type_at internal name ≡ first_type env terms (Internal name)
