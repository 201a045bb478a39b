use Rattle.std.proofs.Common.{rules, ◌≡◌, Some, None}
use Rattle.isle_scope.specs.Table.{held as table_held}
use Rattle.isle_places.proofs.ToldLaws.{bound_told, unbound_told}
use Rattle.isle_places.proofs.told.local_told.Goals as goal

pub returns-in-Some : goal.returns-in-Some
returns-in-Some c =
    let e : Some c.in-Some.found.now ≡ table_held c.args.bound.now c.args.local = search rules in
    bound_told c.args.bound.now c.args.local c.in-Some.found.now e

pub returns-in-None : goal.returns-in-None
returns-in-None c =
    let e : None ≡ table_held c.args.bound.now c.args.local = search rules in
    unbound_told c.args.bound.now c.args.local e
