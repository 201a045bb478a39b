use Rattle.std.proofs.Common.{◌≡◌, rules, length, map}
use Rattle.isle_declarations.specs.declared.collected.ExtractorDef.{ExtractorDef}
use Rattle.isle_declarations.specs.Collected.{extractor}
use Rattle.isle_declarations.specs.Tables.{extracting_names}
use Rattle.isle_declarations.proofs.NumberLaws.{numbered_below, firsts_result, map_seen}
use Rattle.isle_declarations.proofs.tables.extracting_places.Goals as goal

pub first_places-requires : goal.first_places-requires
first_places-requires c =
    let given = c.args.given.now in
    let is : c.as_slice-2.result.now ≡ map (λ (x : ExtractorDef). x.number) given.extractors.items = search rules in
    let len : c.len.result ≡ length given.symbols = search rules in
    rw (is, len) (numbered_below given.symbols (map (λ (x : ExtractorDef). x.term.now) given.extractors.items) (map (λ (x : ExtractorDef). x.number) given.extractors.items) c.requires.of_extractors)

pub returns : goal.returns
returns c =
    let given = c.args.given.now in
    let is : c.as_slice-2.result.now ≡ map (λ (x : ExtractorDef). x.number) given.extractors.items = search rules in
    let len : c.len.result ≡ length given.symbols = search rules in
    let names : extracting_names given ≡ map (λ (x : ExtractorDef). x.term.now) given.extractors.items = map_seen _ extractor given.extractors.items in
    rw names (firsts_result c.first_places.result given.symbols (map (λ (x : ExtractorDef). x.term.now) given.extractors.items) (map (λ (x : ExtractorDef). x.number) given.extractors.items) c.as_slice-2.result.now c.len.result c.requires.of_extractors len is c.first_places.ensures)
