use Rattle.std.proofs.Common.{take}
use Rattle.isle_lawful_names.specs.NameSet.{HasNames}
use Rattle.isle_meta.proofs.kept_names.name_set.Given as goal

abbrev pub invariant-loop-name : goal.invariant-loop-name
invariant-loop-name l = HasNames (take l.name-index l.names) l.set
