use Rattle.std.proofs.Common.{◌≡◌, drop}
use Rattle.isle_numerics.specs.Meaning.{named}
use Rattle.isle_numerics.proofs.eval.first_named.Given as goal

abbrev pub invariant-loop-op : goal.invariant-loop-op
invariant-loop-op l = named l.name (drop l.op-index l.ops) ≡ named l.name l.ops
