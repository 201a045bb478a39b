use Rattle.std.proofs.Common.{rules, ◌≡◌, length}
use Rattle.isle_scope.specs.Places.{look_in}
use Rattle.isle_scope.proofs.PlaceLaws.{finds_more}
use Rattle.isle_scope.proofs.scope.note.Goals as goal

pub returns-in-Ok-clause-keeps : goal.returns-in-Ok-clause-keeps
returns-in-Ok-clause-keeps c =
    let is : c.len-place.result ≡ length c.args.log.now.items = search rules in
    rw c.in_ok-push.ensures.items
    (finds_more c.args.log.now.items (look_in c.args.places.now) (look_in c.put.new.self) (record { local = c.args.local; hidden = c.get-hidden.result }) c.len-place.result c.requires c.get-hidden.ensures is c.in-Ok.ensures.sets)
