-- When definitions may be compiled.
use Rattle.std.specs.Prelude.{ℕ, List, []}
use Rattle.isle_core.specs.Rule.{Environment}
use Rattle.isle_ast.specs.Tree.{Def}
use Rattle.isle_sema.specs.Typing.{TypedOnly}
use Rattle.isle_checks.specs.CheckList.{IsClean}
use Rattle.isle_checks.specs.RuleErrors.{IsRecursionOf}
use Rattle.isle_lawful_names.specs.NameFault.{AreLawfulNames}
use Rattle.isle_codegen.specs.Source.{Source}

-- the definitions have this environment and no other; nothing is wrong with its rules, each term that uses itself is marked so, and its
-- names and those of the files, as printed, may be emitted
pub record IsLawfulEnvironment (printed : List (List ℕ)) (defs : List Def) (env : Environment) : Type 0 where
  pub typed : TypedOnly defs env
  pub clean : IsClean env
  pub marked : IsRecursionOf env []
  pub names : AreLawfulNames printed env

-- the environment is such a one of some definitions
pub record MayBeEmitted (names : List (List ℕ)) (env : Environment) : Type 0 where
  pub defs : List Def
  pub lawful : IsLawfulEnvironment names defs env

-- the texts of files with these printed names spell definitions that have such an environment
pub record AreAccepted (names texts : List (List ℕ)) : Type 0 where
  pub defs : List Def
  pub env : Environment
  pub source : Source 0 texts defs
  pub lawful : IsLawfulEnvironment names defs env
