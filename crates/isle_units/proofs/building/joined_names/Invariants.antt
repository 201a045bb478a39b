use Rattle.std.proofs.Common.{◌≡◌, map, take}
use Rattle.isle_core.specs.Inputs.{bytes_each}
use Rattle.isle_meta.specs.Layout.{joined_name}
use Rattle.isle_units.specs.Rows.{texts_of}
use Rattle.isle_units.proofs.building.joined_names.Given as goal

abbrev pub invariant-loop-name : goal.invariant-loop-name
invariant-loop-name l = bytes_each l.paths.items ≡ map (joined_name l.folder) (texts_of (take l.name-index l.names))
