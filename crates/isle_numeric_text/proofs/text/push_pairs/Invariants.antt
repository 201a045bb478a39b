use Rattle.std.proofs.Common.{◌≡◌, ◌++◌, take, string_bytes}
use Rattle.std.specs.List.{flat_map}
use Rattle.isle_numerics.specs.declared.numeric_type.NumericType.{NumericType}
use Rattle.isle_writing.specs.Text.{def_texts}
use Rattle.isle_numeric_text.specs.Among.{pairs_among}
use Rattle.isle_numeric_text.proofs.text.push_pairs.Given as goal

abbrev pub invariant-loop-from : goal.invariant-loop-from
invariant-loop-from l =
    string_bytes l.text
    ≡ string_bytes l.fn.text ++ flat_map (λ (from : NumericType). def_texts (pairs_among l.types from)) (take l.from-index l.firsts)
