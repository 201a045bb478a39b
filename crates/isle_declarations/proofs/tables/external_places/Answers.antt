use Rattle.std.proofs.Common.{◌≡◌, rules, length, map}
use Rattle.isle_declarations.specs.declared.collected.Extern.{Extern}
use Rattle.isle_declarations.specs.Collected.{extern}
use Rattle.isle_declarations.specs.Tables.{external_names}
use Rattle.isle_declarations.proofs.NumberLaws.{numbered_below, firsts_result, map_seen}
use Rattle.isle_declarations.proofs.tables.external_places.Goals as goal

pub first_places-requires : goal.first_places-requires
first_places-requires c =
    let given = c.args.given.now in
    let is : c.as_slice-2.result.now ≡ map (λ (x : Extern). x.number) given.externs.items = search rules in
    let len : c.len.result ≡ length given.symbols = search rules in
    rw (is, len) (numbered_below given.symbols (map (λ (x : Extern). x.term.now) given.externs.items) (map (λ (x : Extern). x.number) given.externs.items) c.requires.of_externs)

pub returns : goal.returns
returns c =
    let given = c.args.given.now in
    let is : c.as_slice-2.result.now ≡ map (λ (x : Extern). x.number) given.externs.items = search rules in
    let len : c.len.result ≡ length given.symbols = search rules in
    let names : external_names given ≡ map (λ (x : Extern). x.term.now) given.externs.items = map_seen _ extern given.externs.items in
    rw names (firsts_result c.first_places.result given.symbols (map (λ (x : Extern). x.term.now) given.externs.items) (map (λ (x : Extern). x.number) given.externs.items) c.as_slice-2.result.now c.len.result c.requires.of_externs len is c.first_places.ensures)
