use Rattle.std.proofs.Common.{◌≡◌, take}
use Rattle.isle_core.specs.Inputs.{bytes_each}
use Rattle.isle_top.proofs.compiled.strings_of.Given as goal

abbrev pub invariant-loop-name : goal.invariant-loop-name
invariant-loop-name l = bytes_each l.strings.items ≡ take l.name-index l.names
