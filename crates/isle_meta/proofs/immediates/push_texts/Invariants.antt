use Rattle.std.proofs.Common.{◌≡◌, ◌++◌, take}
use Rattle.isle_meta.specs.TableNames.{texts}
use Rattle.isle_meta.proofs.immediates.push_texts.Given as goal

abbrev pub invariant-loop-value : goal.invariant-loop-value
invariant-loop-value l = texts l.names.items ≡ texts l.initial.names.items ++ take l.value-index l.values
