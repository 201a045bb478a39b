use Rattle.std.proofs.Common.{◌≡◌, rules, sym, subst}
use Rattle.isle_walks.proofs.NoneClosed.{none_closed}
use Rattle.isle_walks.specs.Walks.{AreNodes, IsOrder, IsOrderFound}
use Rattle.isle_templates.specs.Uses.{uses}
use Rattle.isle_templates.specs.Written.{written_of}
use Rattle.isle_templates.proofs.TemplateOrder.{uses_there}
use Rattle.isle_templates.proofs.templates.whole_templates.Goals as goal

pub order-requires : goal.order-requires
order-requires c =
    let is : c.as_slice.result.now ≡ uses (written_of c.args.written.now) = search rules in
    subst AreNodes (sym is) (uses_there (written_of c.args.written.now))

pub returns : goal.returns
returns c =
    let is : c.as_slice.result.now ≡ uses (written_of c.args.written.now) = search rules in
    let ordered : IsOrder (uses (written_of c.args.written.now)) c.in-Some.order.items =
    subst (λ graph. IsOrder graph c.in-Some.order.items) is (subst (IsOrderFound c.as_slice.result.now) c.in-Some.is c.in_ok-order.ensures) in
    (none_closed (uses (written_of c.args.written.now)) c.in-Some.order.items ordered, c.in_ok-filled-in-Some.ensures)
