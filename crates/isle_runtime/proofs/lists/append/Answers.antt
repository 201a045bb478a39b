use Rattle.std.proofs.Common.{◌++◌, List, [], ◌∷◌, ap, ◌∙◌}
use Rattle.std.proofs.lemmas.List.{append_assoc}
use Rattle.isle_runtime.proofs.ListLaws.{yields_more}
use Rattle.isle_runtime.proofs.lists.append.Goals as goal

pub loop-items-preserved : goal.loop-items-preserved
loop-items-preserved g c =
    let inv = c.loop-items.invariant in
    let item = c.in-Some.item in
    let goes = c.in-Some.ensures.goes.on inv.1 in
    let old : List g.row.T.Denot = c.args.list.now.items in (
      goes.0,
      goes.1,
      inv.2 ++ item ∷ [],
      yields_more g.It.Iterator.next_gives inv.2 item c.args.items c.loop-items.items c.next.new.self inv.3 c.in-Some.ensures.steps,
      c.push_reserved.ensures.items ∙ ap (λ xs. xs ++ item ∷ []) (c.in_ok-reserve.ensures.items ∙ inv.4) ∙ append_assoc old inv.2 (item ∷ []),
    )
