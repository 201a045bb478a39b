use Rattle.std.proofs.Common.{◌≡◌, rules, length, map}
use Rattle.isle_declarations.specs.declared.collected.Signature.{Signature}
use Rattle.isle_declarations.specs.Collected.{signature}
use Rattle.isle_declarations.specs.Tables.{declared_names}
use Rattle.isle_declarations.proofs.NumberLaws.{numbered_below, firsts_result, map_seen}
use Rattle.isle_declarations.proofs.tables.declared_places.Goals as goal

pub first_places-requires : goal.first_places-requires
first_places-requires c =
    let given = c.args.given.now in
    let is : c.as_slice-2.result.now ≡ map (λ (x : Signature). x.number) given.signatures.items = search rules in
    let len : c.len.result ≡ length given.symbols = search rules in
    rw (is, len) (numbered_below given.symbols (map (λ (x : Signature). x.term.now) given.signatures.items) (map (λ (x : Signature). x.number) given.signatures.items) c.requires.of_signatures)

pub returns : goal.returns
returns c =
    let given = c.args.given.now in
    let is : c.as_slice-2.result.now ≡ map (λ (x : Signature). x.number) given.signatures.items = search rules in
    let len : c.len.result ≡ length given.symbols = search rules in
    let names : declared_names given ≡ map (λ (x : Signature). x.term.now) given.signatures.items = map_seen _ signature given.signatures.items in
    rw names (firsts_result c.first_places.result given.symbols (map (λ (x : Signature). x.term.now) given.signatures.items) (map (λ (x : Signature). x.number) given.signatures.items) c.as_slice-2.result.now c.len.result c.requires.of_signatures len is c.first_places.ensures)
