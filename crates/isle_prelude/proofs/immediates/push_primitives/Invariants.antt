use Rattle.std.proofs.Common.{◌≡◌, ◌++◌, string_bytes}
use Rattle.std.specs.List.{flat_map}
use Rattle.isle_prelude.specs.Lent.{lent}
use Rattle.isle_prelude.specs.TypePieces.{primitive_piece}
use Rattle.isle_prelude.proofs.immediates.push_primitives.Given as goal

abbrev pub invariant-loop-name : goal.invariant-loop-name
invariant-loop-name l = string_bytes l.text ++ flat_map primitive_piece (lent l.name-iterator) ≡ string_bytes l.initial.text ++ flat_map primitive_piece (lent l.names.keys)
