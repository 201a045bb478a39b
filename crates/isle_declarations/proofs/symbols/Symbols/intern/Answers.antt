use Rattle.std.proofs.Common.{◌≡◌, rules, length, None, sym, ◌∙◌}
use Rattle.isle_declarations.specs.LookedUp.{texts}
use Rattle.isle_declarations.specs.Symbols.{index_of}
use Rattle.isle_declarations.proofs.PlaceLaws.{placed_last}
use Rattle.isle_declarations.proofs.symbols.Symbols.intern.Goals as goal

pub returns-then-place-lt-FEW-clause-place : goal.returns-then-place-lt-FEW-clause-place
returns-then-place-lt-FEW-clause-place c =
    let absent : index_of (texts c.self.inside.names.items) c.args.name.now ≡ None = search rules in
    let is : c.len-place.result ≡ length c.self.inside.names.items = search rules in
    placed_last c.self.inside.names.items c.push.new.self.items c.args.name c.len-place.result c.in_ok-push.ensures.items absent is

pub returns-in-Ok-clause-place : goal.returns-in-Ok-clause-place
returns-in-Ok-clause-place c =
    let absent : index_of (texts c.self.inside.names.items) c.args.name.now ≡ None = search rules in
    let is : c.len-place.result ≡ length c.self.inside.names.items = search rules in
    placed_last c.self.inside.names.items c.push-2.new.self.items c.args.name c.len-place.result c.in_ok-push-2.ensures.items absent is
