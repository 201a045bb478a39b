use Rattle.std.proofs.Common.{◌≡◌, drop}
use Rattle.std.specs.List.{list_any}
use Rattle.isle_unit_files.specs.UnitFiles.{is_pulley}
use Rattle.isle_unit_files.proofs.generating.has_pulley.Given as goal

abbrev pub invariant-loop-isa : goal.invariant-loop-isa
invariant-loop-isa l = list_any is_pulley (drop l.isa-index l.isas) ≡ list_any is_pulley l.isas
