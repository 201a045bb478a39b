use Rattle.std.proofs.Common.{◌≡◌, ◌++◌, take, string_bytes}
use Rattle.std.specs.List.{flat_map, filter}
use Rattle.isle_numerics.specs.Definitions.{is_other}
use Rattle.isle_numeric_methods.specs.Methods.{pair_methods}
use Rattle.isle_numeric_methods.proofs.conversions.push_from.Given as goal

abbrev pub invariant-loop-to : goal.invariant-loop-to
invariant-loop-to l = string_bytes l.text ≡ string_bytes l.fn.text ++ flat_map (pair_methods l.from) (filter (is_other l.from) (take l.to-index l.all))
