use Rattle.std.proofs.Common.{◌≡◌, drop}
use Rattle.std.specs.Prelude.{find}
use Rattle.isle_core.specs.declared.types.IntType.{IntType}
use Rattle.isle_core.specs.Int.{type_name}
use Rattle.isle_printer.specs.Bytes.{same_bytes}
use Rattle.isle_spelling.proofs.names.first_named.Given as goal

abbrev pub invariant-loop-ty : goal.invariant-loop-ty
invariant-loop-ty l =
    find (λ (ty : IntType). same_bytes (type_name ty) l.name) (drop l.ty-index l.types) ≡ find (λ (ty : IntType). same_bytes (type_name ty) l.name) l.types
