use Rattle.std.proofs.Common.{drop}
use Rattle.isle_running.specs.Named.{FindsValues}
use Rattle.isle_running.proofs.named.by_name.Given as goal

abbrev pub invariant-loop-index : goal.invariant-loop-index
invariant-loop-index l = FindsValues (drop l.index l.fn.given) l.found
