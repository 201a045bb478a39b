use Rattle.std.proofs.Common.{map, subst}
use Rattle.isle_blocks.specs.Arranged.{AreEachArranged, arranged_way}
use Rattle.isle_blocks.specs.Ways.{parted_way}
use Rattle.isle_blocks.proofs.ArrangedWays.{are_arranged}
use Rattle.isle_blocks.proofs.arrangement.arrange_rules.Goals as goal

pub returns : goal.returns
returns c = λ fs named.
    let t = c.args.tables.now in
    let turns = c.in_ok-turns.turns.items in
    let before = c.in_ok-all.all.items in
    are_arranged t.several t.bindings.now turns fs c.args.ways.now before c.sort_ways.new.all.items c.in_ok-turns.ensures named
    (subst (λ ts. AreEachArranged ts (map parted_way c.args.ways.now) (map arranged_way before)) c.as_slice.ensures.value c.in_ok-all.ensures)
    c.in_ok-sort_ways.ensures.permutation c.in_ok-sort_ways.ensures.falls
