use Rattle.std.proofs.Common.{◌≡◌, ◌++◌, take, string_bytes}
use Rattle.std.specs.List.{flat_map, filter}
use Rattle.isle_numerics.specs.declared.numeric_type.NumericType.{NumericType}
use Rattle.isle_numerics.specs.Definitions.{is_other, pair_defs}
use Rattle.isle_writing.specs.Text.{def_texts}
use Rattle.isle_numeric_text.proofs.text.push_others.Given as goal

abbrev pub invariant-loop-to : goal.invariant-loop-to
invariant-loop-to l =
    string_bytes l.text
    ≡ string_bytes l.fn.text
    ++ flat_map (λ (to : NumericType). def_texts (pair_defs l.from to)) (filter (is_other l.from) (take l.to-index l.types))
