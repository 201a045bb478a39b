use Rattle.std.proofs.Common.{◌≡◌, ◌++◌, drop, map}
use Rattle.isle_core.specs.ErrorLines.{masked}
use Rattle.isle_core.proofs.errors.masked_bytes.Given as goal

abbrev pub invariant-loop-byte : goal.invariant-loop-byte
invariant-loop-byte l = l.bytes.items ++ map masked (drop l.byte-index l.byte-items) ≡ map masked l.byte-items
