use Rattle.std.proofs.Common.{◌≡◌, take}
use Rattle.isle_declarations.specs.LookedUp.{texts}
use Rattle.isle_declarations.proofs.symbols.copies.Given as goal

abbrev pub invariant-loop-name : goal.invariant-loop-name
invariant-loop-name l = l.copies.items ≡ texts (take l.name-index l.names)
