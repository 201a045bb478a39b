use Rattle.std.proofs.Common.{◌≡◌, ◌++◌, drop}
use Rattle.isle_places.specs.Places.{reads_places}
use Rattle.isle_places.specs.Signatures.{type_names}
use Rattle.isle_places.specs.ToldViews.{placed}
use Rattle.isle_places.proofs.places.push_reads.Given as goal

abbrev pub invariant-loop-index : goal.invariant-loop-index
invariant-loop-index l = placed l.found.items ++ (reads_places (drop l.index l.reads) (type_names (drop l.index l.params))) ≡ placed l.fn.found.items ++ (reads_places l.reads (type_names l.params))
