use Rattle.std.proofs.Common.{◌≡◌, ◌++◌, map, take}
use Rattle.isle_numerics.specs.Definitions.{conversion_name}
use Rattle.isle_numeric_text.proofs.term_names.push_conversions.Given as goal

abbrev pub invariant-loop-c : goal.invariant-loop-c
invariant-loop-c l = l.names.items ≡ l.fn.names.items ++ map (conversion_name l.from l.to) (take l.c-index l.all)
