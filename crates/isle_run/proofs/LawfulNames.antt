-- What is known of the names of a source that was checked.
use Rattle.std.specs.Prelude.{Bool}
use Rattle.isle_core.specs.Rule.{Environment}
use Rattle.isle_lawful_names.specs.LawfulNames.{AreLawful}
use Rattle.isle_run.proofs.NamedTypes.{HasBuiltins}

-- its names may be emitted, and the builtin types are among its types
pub record HasLawfulNames (env : Environment) : Type 0 where
  pub has_rules : Bool
  pub lawful : AreLawful has_rules env.types
  pub builtins : HasBuiltins env.types
