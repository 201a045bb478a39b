use Rattle.std.proofs.Common.{take}
use Rattle.isle_lawful_names.specs.NameSet.{HasNames}
use Rattle.isle_meta.proofs.immediates.value_set.Given as goal

abbrev pub invariant-loop-value : goal.invariant-loop-value
invariant-loop-value l = HasNames (take l.value-index l.values) l.set
