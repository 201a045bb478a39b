use Rattle.std.proofs.Common.{◌≡◌, ◌++◌, take}
use Rattle.isle_core.specs.Inputs.{bytes_each}
use Rattle.isle_units.proofs.compilation.push_copies.Given as goal

abbrev pub invariant-loop-name : goal.invariant-loop-name
invariant-loop-name l = bytes_each l.names.items ≡ bytes_each l.fn.names.items ++ take l.name-index l.copied
