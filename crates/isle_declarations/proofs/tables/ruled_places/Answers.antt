use Rattle.std.proofs.Common.{◌≡◌, rules, length, map}
use Rattle.isle_declarations.specs.declared.collected.RuleDef.{RuleDef}
use Rattle.isle_declarations.specs.Collected.{rule}
use Rattle.isle_declarations.specs.Tables.{ruled_names}
use Rattle.isle_declarations.proofs.NumberLaws.{numbered_below, firsts_result, map_seen}
use Rattle.isle_declarations.proofs.tables.ruled_places.Goals as goal

pub first_places-requires : goal.first_places-requires
first_places-requires c =
    let given = c.args.given.now in
    let is : c.as_slice-2.result.now ≡ map (λ (x : RuleDef). x.number) given.rules.items = search rules in
    let len : c.len.result ≡ length given.symbols = search rules in
    rw (is, len) (numbered_below given.symbols (map (λ (x : RuleDef). x.term.now) given.rules.items) (map (λ (x : RuleDef). x.number) given.rules.items) c.requires.of_rules)

pub returns : goal.returns
returns c =
    let given = c.args.given.now in
    let is : c.as_slice-2.result.now ≡ map (λ (x : RuleDef). x.number) given.rules.items = search rules in
    let len : c.len.result ≡ length given.symbols = search rules in
    let names : ruled_names given ≡ map (λ (x : RuleDef). x.term.now) given.rules.items = map_seen _ rule given.rules.items in
    rw names (firsts_result c.first_places.result given.symbols (map (λ (x : RuleDef). x.term.now) given.rules.items) (map (λ (x : RuleDef). x.number) given.rules.items) c.as_slice-2.result.now c.len.result c.requires.of_rules len is c.first_places.ensures)
