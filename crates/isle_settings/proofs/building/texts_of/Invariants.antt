use Rattle.std.proofs.Common.{◌≡◌, take}
use Rattle.isle_settings.specs.Rows.{texts_of}
use Rattle.isle_settings.proofs.building.texts_of.Given as goal

abbrev pub invariant-loop-name : goal.invariant-loop-name
invariant-loop-name l = l.texts.items ≡ texts_of (take l.name-index l.names)
