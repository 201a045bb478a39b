use Rattle.std.proofs.Common.{◌≡◌, rules, sym, subst}
use Rattle.isle_terms.specs.Converters.{converter_between}
use Rattle.isle_terms.specs.ConverterViews.{IsNumberOf, at_types}
use Rattle.isle_terms.proofs.converters.Converters.between.Goals as goal

pub returns : goal.returns
returns c =
    λ defs cs found.
    let is : c.copied.result ≡ at_types c.args.self.now.numbers c.args.from c.args.to = search rules in
    subst (IsNumberOf defs (converter_between defs cs c.args.from c.args.to)) (sym is) (found.finds c.args.from c.args.to)
