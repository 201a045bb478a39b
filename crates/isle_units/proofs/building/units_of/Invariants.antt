use Rattle.std.proofs.Common.{◌≡◌, map, take}
use Rattle.isle_units.specs.Rows.{unit_of}
use Rattle.isle_units.proofs.building.units_of.Given as goal

abbrev pub invariant-loop-row : goal.invariant-loop-row
invariant-loop-row l = l.items.items ≡ map (unit_of l.sources l.gen_dir) (take l.row-index l.rows)
