use Rattle.std.proofs.Common.{◌≡◌, ◌++◌, map, take}
use Rattle.isle_core.specs.Inputs.{bytes_each}
use Rattle.isle_core.specs.Printed.{shown}
use Rattle.isle_build.proofs.reading.push_names.Given as goal

abbrev pub invariant-loop-name : goal.invariant-loop-name
invariant-loop-name l = l.printed.items ≡ l.fn.printed.items ++ map (shown l.prefixes) (bytes_each (take l.name-index l.names))
