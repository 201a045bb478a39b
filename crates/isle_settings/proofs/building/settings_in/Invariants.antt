use Rattle.std.proofs.Common.{◌≡◌, map, take}
use Rattle.isle_settings.specs.Rows.{setting_of}
use Rattle.isle_settings.proofs.building.settings_in.Given as goal

abbrev pub invariant-loop-row : goal.invariant-loop-row
invariant-loop-row l = l.settings.items ≡ map setting_of (take l.row-index l.rows)
