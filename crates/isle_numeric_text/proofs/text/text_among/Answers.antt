use Rattle.std.proofs.Common.{◌≡◌, ◌++◌, [], rules, string_bytes}
use Rattle.std.specs.List.{flat_map}
use Rattle.isle_writing.specs.Text.{def_texts}
use Rattle.isle_numerics.specs.declared.numeric_type.NumericType.{NumericType}
use Rattle.isle_numerics.specs.Definitions.{type_defs}
use Rattle.isle_numeric_text.specs.Among.{pairs_among}
use Rattle.isle_numeric_text.proofs.TextLaws.{among_texts, then_texts}
use Rattle.isle_numeric_text.proofs.text.text_among.Goals as goal

pub returns : goal.returns
returns c =
    let types = c.args.types.now in
    let first : string_bytes c.push_types.new.text ≡ [] ++ flat_map (λ (ty : NumericType). def_texts (type_defs ty)) types = search rules in
    let second : string_bytes c.push_pairs.new.text ≡ string_bytes c.push_types.new.text ++ flat_map (λ (from : NumericType). def_texts (pairs_among types from)) types = search rules in
    then_texts [] _ _ _ _ _ first second (among_texts types)
