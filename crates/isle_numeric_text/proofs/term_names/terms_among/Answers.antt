use Rattle.std.proofs.Common.{◌≡◌, ◌++◌, [], ◌∙◌, rules}
use Rattle.std.specs.List.{flat_map}
use Rattle.isle_numerics.specs.declared.numeric_type.NumericType.{NumericType}
use Rattle.isle_numerics.specs.Definitions.{type_defs}
use Rattle.isle_numeric_text.specs.Among.{pairs_among, terms_of}
use Rattle.isle_numeric_text.proofs.TermLaws.{among_terms, then_terms}
use Rattle.isle_numeric_text.proofs.term_names.terms_among.Goals as goal

pub returns : goal.returns
returns c =
    let types = c.args.types.now in
    let first : c.push_types.new.names.items ≡ [] ++ flat_map (λ (ty : NumericType). terms_of (type_defs ty)) types = search rules in
    let second : c.push_pairs.new.names.items
    ≡ c.push_types.new.names.items ++ flat_map (λ (from : NumericType). terms_of (pairs_among types from)) types = search rules in
    c.new.ensures ∙ then_terms [] _ _ _ _ _ first second (among_terms types)
