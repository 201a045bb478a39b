use Rattle.std.proofs.Common.{◌≡◌, ◌<◌, length, get_or, subst}
use Rattle.isle_lawful_names.specs.TypeItems.{type_item}
use Rattle.isle_lawful_names.proofs.ItemSteps.{gathers_more}
use Rattle.isle_lawful_names.proofs.items.type_items.Goals as goal

pub loop-def-preserved : goal.loop-def-preserved
loop-def-preserved c =
    let i = c.loop-def.def-index in
    let lt = subst (λ ds. i < length ds) c.as_slice-def-items.ensures c.loop-def-test.true in
    let is = subst (λ ds. c.def-item.result ≡ get_or ds i c.def-item.result) c.as_slice-def-items.ensures c.def-item.is in
    gathers_more (type_item c.args.types.now) c.args.types.now.types i c.def-item.result c.in_ok-type_item.field-0 c.loop-def.items.items c.push_some.new.items.items lt is c.in_ok-type_item.ensures c.in_ok-push_some.ensures c.loop-def.invariant
