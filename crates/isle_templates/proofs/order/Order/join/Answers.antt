use Rattle.std.proofs.Common.{◌≡◌, rules, false, length}
use Rattle.std.specs.Prelude.{is_some}
use Rattle.isle_scope.specs.Places.{look_in}
use Rattle.isle_templates.proofs.FirstPlaces.{finds_more}
use Rattle.isle_templates.proofs.order.Order.join.Goals as goal

pub invariant_of-self-in-Ok : goal.invariant_of-self-in-Ok
invariant_of-self-in-Ok c =
    let absent : is_some (look_in c.self.inside.places c.index-number.result) ≡ false = search rules in
    let is : c.len-place.result ≡ length c.self.inside.variables.items = search rules in
    finds_more c.self.inside.variables.items c.push.new.self.items (look_in c.self.inside.places) (look_in c.put.new.self) c.index-number.result c.len-place.result c.in_ok-push.ensures.items c.self.invariant absent is c.in-Ok.ensures.sets
