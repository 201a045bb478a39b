use Rattle.std.proofs.Common.{drop}
use Rattle.isle_core.specs.Rule.{Environment}
use Rattle.isle_lawful_names.specs.Claims.{file_claims}
use Rattle.isle_lawful_names.proofs.FoundLaws.{Leads}
use Rattle.isle_lawful_names.proofs.files.unlawful_file.Given as goal

abbrev pub invariant-loop-name : goal.invariant-loop-name
invariant-loop-name l = (env : Environment) → Leads env (file_claims (drop l.name-index l.names)) (file_claims l.names)
