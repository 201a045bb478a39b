use Rattle.std.proofs.Common.{◌≡◌, drop}
use Rattle.isle_core.specs.Rule.{Environment}
use Rattle.isle_lawful_names.specs.Claims.{constant_claims}
use Rattle.isle_lawful_names.proofs.FoundLaws.{Leads}
use Rattle.isle_lawful_names.proofs.constants.unlawful_constant.Given as goal

abbrev pub invariant-loop-constant : goal.invariant-loop-constant
invariant-loop-constant l = (env : Environment) → env.types ≡ l.types → Leads env (constant_claims l.types (drop l.constant-index l.types.consts)) (constant_claims l.types l.types.consts)
