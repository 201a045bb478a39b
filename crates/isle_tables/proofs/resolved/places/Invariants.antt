use Rattle.std.proofs.Common.{◌≡◌, ℕ, List}
use Rattle.isle_tables.specs.FormatNames.{at_name}
use Rattle.isle_tables.proofs.ResolvedSteps.{place_from}
use Rattle.isle_tables.proofs.resolved.places.Given as goal

-- the formats from here on are there, each name with its first place
abbrev pub invariant-loop-index : goal.invariant-loop-index
invariant-loop-index l = (name : List ℕ) → at_name l.found name ≡ place_from l.index l.fn.formats name
