use Rattle.std.proofs.Common.{◌≡◌, rules, length, map, refl}
use Rattle.isle_ast.specs.Views.{defs as seen}
use Rattle.isle_declarations.specs.Symbols.{index_of, number_or, symbols}
use Rattle.isle_declarations.specs.Heads.{terms_of}
use Rattle.isle_declarations.specs.Terms.{terms}
use Rattle.isle_declarations.proofs.NumberLaws.{numbered_below, firsts_result}
use Rattle.isle_declarations.proofs.TermNames.{numbers_seen}
use Rattle.isle_declarations.proofs.terms.places_of.Goals as goal

pub first_places-requires : goal.first_places-requires
first_places-requires c =
    let defs = seen c.args.declarations.now in
    let is : c.as_slice.result.now ≡ map (λ t. number_or (index_of (symbols defs) t.term.now)) c.args.terms.now = search rules in
    let len : c.count.result ≡ length (symbols defs) = search rules in
    rw len (numbered_below (symbols defs) (terms_of (terms defs)) c.as_slice.result.now (numbers_seen defs c.args.terms.now c.as_slice.result.now c.requires is))

pub returns : goal.returns
returns c =
    let defs = seen c.args.declarations.now in
    let is : c.as_slice.result.now ≡ map (λ t. number_or (index_of (symbols defs) t.term.now)) c.args.terms.now = search rules in
    firsts_result c.first_places.result (symbols defs) (terms_of (terms defs)) c.as_slice.result.now c.as_slice.result.now c.count.result (numbers_seen defs c.args.terms.now c.as_slice.result.now c.requires is) c.count.ensures refl c.first_places.ensures
