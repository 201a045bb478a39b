use Rattle.std.proofs.Common.{⊎_elim, [], ◌∷◌, refl}
use Rattle.isle_core.proofs.Contained.{none_contained}
use Rattle.isle_walks.specs.Sound.{IsOpen}
use Rattle.isle_walks.proofs.Paths.{open_one}
use Rattle.isle_walks.proofs.Steps.{closed_sound, closed_open, closed_grows}
use Rattle.isle_walks.proofs.depth_first.DepthFirst.close_ready.Goals as goal

pub returns-in_ok-close-in-None : goal.returns-in_ok-close-in-None
returns-in_ok-close-in-None c =
    let looked = c.in-None.ensures in
    let old = c.args.self.now.order.items in
    let node = c.args.node in
    let opened : IsOpen c.args.graph.now old (node ∷ []) node = open_one c.args.graph.now old node c.requires.there c.requires.left in
    let after : IsOpen c.args.graph.now c.close.new.self.order.items [] node = closed_open [] node looked.sound looked.same opened refl looked.left c.in_ok-close-in-None.ensures.order in (
      closed_sound [] node looked.sound looked.same opened refl looked.left c.in_ok-close-in-None.ensures.order c.in_ok-close-in-None.ensures.looked c.in_ok-close-in-None.ensures.done,
      closed_grows [] node looked.sound looked.same opened refl looked.left c.in_ok-close-in-None.ensures.order old (λ other e. e),
      ⊎_elim (λ e. e) (λ d. absurd (none_contained node d)) after.held,
    )
