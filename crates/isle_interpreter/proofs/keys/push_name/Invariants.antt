use Rattle.std.proofs.Common.{◌≡◌, ◌++◌, map, drop}
use Rattle.std.specs.Prelude.{pos}
use Rattle.isle_interpreter.specs.Clashes.{name_key}
use Rattle.isle_interpreter.proofs.keys.push_name.Given as goal

abbrev pub invariant-loop-byte : goal.invariant-loop-byte
invariant-loop-byte l = l.key.items ++ map pos (drop l.byte-index l.bytes) ≡ l.fn.key.items ++ name_key l.name
