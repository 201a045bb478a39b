use Rattle.std.proofs.Common.{◌≡◌, ◌++◌, take, string_bytes}
use Rattle.std.specs.List.{flat_map}
use Rattle.isle_numeric_methods.specs.Methods.{methods_from}
use Rattle.isle_numeric_methods.proofs.text.push_pairs.Given as goal

abbrev pub invariant-loop-from : goal.invariant-loop-from
invariant-loop-from l =
    string_bytes l.text
    ≡ string_bytes l.fn.text ++ flat_map (methods_from l.all) (take l.from-index l.types)
