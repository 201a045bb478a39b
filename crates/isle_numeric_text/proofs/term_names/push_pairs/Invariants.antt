use Rattle.std.proofs.Common.{◌≡◌, ◌++◌, take}
use Rattle.std.specs.List.{flat_map}
use Rattle.isle_numerics.specs.declared.numeric_type.NumericType.{NumericType}
use Rattle.isle_numeric_text.specs.Among.{pairs_among, terms_of}
use Rattle.isle_numeric_text.proofs.term_names.push_pairs.Given as goal

abbrev pub invariant-loop-from : goal.invariant-loop-from
invariant-loop-from l = l.names.items ≡ l.fn.names.items ++ flat_map (λ (from : NumericType). terms_of (pairs_among l.types from)) (take l.from-index l.firsts)
