use Rattle.std.proofs.Common.{drop}
use Rattle.std.specs.Prelude.{flat_map}
use Rattle.isle_core.specs.Rule.{Environment}
use Rattle.isle_lawful_names.specs.Claims.{variant_claims}
use Rattle.isle_lawful_names.proofs.FoundLaws.{Leads}
use Rattle.isle_lawful_names.proofs.types.in_variants.Given as goal

abbrev pub invariant-loop-variant : goal.invariant-loop-variant
invariant-loop-variant l = (env : Environment) → Leads env (flat_map (variant_claims l.types) (drop l.variant-index l.variants)) (flat_map (variant_claims l.types) l.variants)
