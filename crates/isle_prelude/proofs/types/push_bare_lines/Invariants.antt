use Rattle.std.proofs.Common.{◌≡◌, ◌++◌, string_bytes}
use Rattle.std.specs.List.{flat_map}
use Rattle.isle_prelude.specs.Lent.{lent}
use Rattle.isle_prelude.specs.TypePieces.{bare_line}
use Rattle.isle_prelude.proofs.types.push_bare_lines.Given as goal

abbrev pub invariant-loop-name : goal.invariant-loop-name
invariant-loop-name l = string_bytes l.text ++ flat_map bare_line (lent l.name-iterator) ≡ string_bytes l.initial.text ++ flat_map bare_line (lent l.names.keys)
