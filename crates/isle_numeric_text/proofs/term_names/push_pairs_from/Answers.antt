use Rattle.std.proofs.Common.{◌++◌, ap, ◌∙◌}
use Rattle.std.proofs.lemmas.List.{take_all}
use Rattle.std.specs.List.{flat_map, filter}
use Rattle.isle_numerics.specs.declared.numeric_type.NumericType.{NumericType}
use Rattle.isle_numerics.specs.Definitions.{is_other, pair_defs}
use Rattle.isle_numeric_text.specs.Among.{terms_of}
use Rattle.isle_numeric_text.proofs.TermLaws.{pairs_terms}
use Rattle.isle_numeric_text.proofs.term_names.push_pairs_from.Goals as goal

pub returns : goal.returns
returns c =
    let from = c.args.from in
    let types = c.args.types.now in
    c.loop-to.invariant
    ∙ ap (λ ts. c.args.names.now.items ++ flat_map (λ (to : NumericType). terms_of (pair_defs from to)) (filter (is_other from) ts))
    (take_all c.loop-to.to-index types c.loop-to-test.false)
    ∙ ap (λ ts. c.args.names.now.items ++ ts) (pairs_terms types from)
