use Rattle.std.proofs.Common.{◌≡◌}
use Rattle.isle_core.specs.Rule.{Environment}
use Rattle.isle_lawful_names.specs.Claims.{is_ruled}
use Rattle.isle_lawful_names.proofs.TypeSteps.{TypesFrom}
use Rattle.isle_lawful_names.proofs.types.unlawful_type.Given as goal

abbrev pub invariant-loop-def : goal.invariant-loop-def
invariant-loop-def l = (env : Environment) → is_ruled env.rules ≡ l.has_rules → TypesFrom env l.types l.def-index l.names
