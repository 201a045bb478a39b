use Rattle.std.proofs.Common.{◌≡◌}
use Rattle.std.specs.Prelude.{drop}
use Rattle.isle_declarations.specs.Repeats.{repeats, repeats_after}
use Rattle.isle_types.specs.Bodies.{variant_names}
use Rattle.isle_types.proofs.bodies.variant_again.Given as goal

abbrev pub invariant-loop-variant : goal.invariant-loop-variant
invariant-loop-variant l = repeats (variant_names l.variants) ≡ repeats_after l.before (variant_names (drop l.variant-index l.variants))
