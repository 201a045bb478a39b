use Rattle.std.proofs.Common.{◌≡◌, take}
use Rattle.isle_declarations.specs.Hashing.{mixed_all}
use Rattle.isle_declarations.proofs.hashing.mixed_all.Given as goal

abbrev pub invariant-loop-byte : goal.invariant-loop-byte
invariant-loop-byte l = l.hash ≡ mixed_all l.initial.hash (take l.byte-index l.bytes)
