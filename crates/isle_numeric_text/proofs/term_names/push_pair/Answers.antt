use Rattle.std.proofs.Common.{◌≡◌, ◌++◌, [], ◌∷◌, map, rules}
use Rattle.isle_numerics.specs.Conversions.{conversions}
use Rattle.isle_numerics.specs.Definitions.{name_of, conversion_name, from_name}
use Rattle.isle_numeric_text.proofs.TermLaws.{pair_terms, then_terms}
use Rattle.isle_numeric_text.proofs.term_names.push_pair.Goals as goal

pub returns : goal.returns
returns c =
    let from = c.args.from in
    let to = c.args.to in
    let first : c.push_conversions.new.names.items
    ≡ c.args.names.now.items ++ map (conversion_name (name_of from) (name_of to)) (conversions from to) = search rules in
    let second : c.push_name.new.names.items ≡ c.push_conversions.new.names.items ++ from_name (name_of to) (name_of from) ∷ [] = search rules in
    then_terms _ _ _ _ _ _ first second (pair_terms from to)
