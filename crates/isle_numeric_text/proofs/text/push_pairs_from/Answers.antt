use Rattle.std.proofs.Common.{◌≡◌, ◌++◌, ap, ◌∙◌, rules, string_bytes}
use Rattle.std.specs.List.{flat_map, filter}
use Rattle.isle_writing.specs.Text.{def_texts}
use Rattle.isle_numerics.specs.declared.numeric_type.NumericType.{NumericType}
use Rattle.isle_numerics.specs.Definitions.{is_other, pair_defs}
use Rattle.isle_numeric_text.proofs.TextLaws.{pairs_texts}
use Rattle.isle_numeric_text.proofs.text.push_pairs_from.Goals as goal

pub returns : goal.returns
returns c =
    let from = c.args.from in
    let first : string_bytes c.push_others.new.text ≡ string_bytes c.args.text.now ++ flat_map (λ (to : NumericType). def_texts (pair_defs from to)) (filter (is_other from) c.args.types.now) = search rules in
    first ∙ ap (λ t. string_bytes c.args.text.now ++ t) (pairs_texts c.args.types.now from)
