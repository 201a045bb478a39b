use Rattle.std.proofs.Common.{◌≡◌, ◌++◌, take, string_bytes}
use Rattle.std.specs.List.{flat_map}
use Rattle.isle_numeric_methods.specs.Methods.{conversion_method}
use Rattle.isle_numeric_methods.proofs.conversions.push_conversions.Given as goal

abbrev pub invariant-loop-c : goal.invariant-loop-c
invariant-loop-c l = string_bytes l.text ≡ string_bytes l.fn.text ++ flat_map (conversion_method l.from l.to) (take l.c-index l.all)
