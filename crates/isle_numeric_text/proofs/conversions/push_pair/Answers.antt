use Rattle.std.proofs.Common.{◌≡◌, ◌++◌, rules, string_bytes}
use Rattle.std.specs.List.{flat_map}
use Rattle.isle_writing.specs.Text.{def_texts}
use Rattle.isle_numerics.specs.declared.conversion.Conversion.{Conversion}
use Rattle.isle_numerics.specs.Conversions.{conversions}
use Rattle.isle_numerics.specs.Definitions.{name_of, back_defs, conversion_defs}
use Rattle.isle_numeric_text.proofs.TextLaws.{pair_texts, then_texts}
use Rattle.isle_numeric_text.proofs.conversions.push_pair.Goals as goal

pub returns : goal.returns
returns c =
    let from = c.args.from in
    let to = c.args.to in
    let first : string_bytes c.push_all.new.text ≡ string_bytes c.args.text.now ++ flat_map (λ (k : Conversion). def_texts (conversion_defs (name_of from) (name_of to) k)) (conversions from to) = search rules in
    let second : string_bytes c.push_back.new.text ≡ string_bytes c.push_all.new.text ++ def_texts (back_defs (name_of from) (name_of to)) = search rules in
    then_texts _ _ _ _ _ _ first second (pair_texts from to)
