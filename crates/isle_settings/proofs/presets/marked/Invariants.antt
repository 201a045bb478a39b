use Rattle.std.proofs.Common.{◌≡◌, ◌++◌, drop}
use Rattle.isle_settings.specs.Marks.{marked_from}
use Rattle.isle_settings.proofs.presets.marked.Given as goal

abbrev pub invariant-loop-place : goal.invariant-loop-place
invariant-loop-place l = l.places.items ++ marked_from l.place (drop l.place l.marks) ≡ marked_from 0 l.marks
