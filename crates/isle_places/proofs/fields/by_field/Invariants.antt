use Rattle.std.proofs.Common.{drop}
use Rattle.isle_places.specs.Types.{FindsFields}
use Rattle.isle_places.proofs.fields.by_field.Given as goal

abbrev pub invariant-loop-index : goal.invariant-loop-index
invariant-loop-index l = FindsFields (drop l.index l.fn.fields) l.found
