use Rattle.std.proofs.Common.{◌≡◌}
use Rattle.std.specs.Prelude.{drop}
use Rattle.isle_declarations.specs.Repeats.{repeats, repeats_after}
use Rattle.isle_declarations.proofs.repeated_names.repeats.Given as goal

abbrev pub invariant-loop-name : goal.invariant-loop-name
invariant-loop-name l = repeats l.names ≡ repeats_after l.before (drop l.name-index l.names)
