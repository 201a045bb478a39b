use Rattle.std.proofs.Common.{◌≡◌, ◌++◌, map, take}
use Rattle.std.specs.Prelude.{filter}
use Rattle.isle_core.specs.Inputs.{bytes_each}
use Rattle.isle_meta.specs.Layout.{joined_name}
use Rattle.isle_units.specs.Paths.{is_isle_name}
use Rattle.isle_units.proofs.paths.push_joined.Given as goal

abbrev pub invariant-loop-name : goal.invariant-loop-name
invariant-loop-name l =
    bytes_each l.paths.items
    ≡ bytes_each l.fn.paths.items ++ map (joined_name l.folder) (filter is_isle_name (bytes_each (take l.name-index l.names)))
