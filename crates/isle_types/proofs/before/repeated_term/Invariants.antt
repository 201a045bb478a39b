use Rattle.std.proofs.Common.{◌≡◌, ◌++◌}
use Rattle.std.specs.Prelude.{take, drop}
use Rattle.isle_declarations.specs.Repeats.{repeats_after}
use Rattle.isle_types.proofs.before.repeated_term.Given as goal

abbrev pub invariant-loop-name : goal.invariant-loop-name
invariant-loop-name l = (repeats_after l.fn.before l.fn.names ≡ repeats_after l.before (drop l.name-index l.fn.names)) × (l.before ≡ l.fn.before ++ take l.name-index l.fn.names)
