use Rattle.std.proofs.Common.{◌≡◌, ◌++◌, take}
use Rattle.std.specs.List.{flat_map, filter}
use Rattle.isle_numerics.specs.declared.numeric_type.NumericType.{NumericType}
use Rattle.isle_numerics.specs.Definitions.{is_other, pair_defs}
use Rattle.isle_numeric_text.specs.Among.{terms_of}
use Rattle.isle_numeric_text.proofs.term_names.push_pairs_from.Given as goal

abbrev pub invariant-loop-to : goal.invariant-loop-to
invariant-loop-to l =
    l.names.items
    ≡ l.fn.names.items ++ flat_map (λ (to : NumericType). terms_of (pair_defs l.from to)) (filter (is_other l.from) (take l.to-index l.types))
