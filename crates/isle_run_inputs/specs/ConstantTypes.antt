-- How the code finds the types of constants.
use Rattle.std.specs.Prelude.{◌≡◌, ℕ, List}
use Rattle.std.specs.BTreeMap.{BTreeMap}
use denote.Ref.{Bor}
use Rattle.isle_core.specs.declared.Sym.{Sym}
use Rattle.isle_core.specs.declared.TypeId.{TypeId}
use Rattle.isle_core.specs.declared.types.TypeEnv.{TypeEnv}
use Rattle.isle_core.specs.Rule.{Environment}
use Rattle.isle_run_inputs.specs.AnswerTypes.{type_at}
use Rattle.isle_run_inputs.specs.Requested.{first_constant}

-- the map has the type of the first of these constants for each name
pub record FindsConstants (types : TypeEnv) (consts : List (Sym × TypeId)) (found : BTreeMap (Bor (List ℕ)) TypeId) : Type 0 where
  pub finds : (env : Environment) → env.types ≡ types → (name : List ℕ) → type_at found name ≡ first_constant env consts name
