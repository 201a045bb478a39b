use Rattle.std.proofs.Common.{subst, sym}
use Rattle.isle_walks.specs.Sound.{IsSoundAt}
use Rattle.isle_walks.proofs.Orders.{sound_new}
use Rattle.isle_walks.proofs.depth_first.DepthFirst.new.Goals as goal

pub returns : goal.returns
returns c =
    let graph = c.args.graph.now in
    let looked = c.in_ok-vec.field-0.items in
    let done = c.in_ok-vec-2.field-0.items in
    let begun = sound_new graph looked done (c.in_ok-vec.ensures.items_if_clones_equal (λ y e. e)) (c.in_ok-vec-2.ensures.items_if_clones_equal (λ y e. e)) in
    subst (λ order. IsSoundAt graph looked done order) (sym c.new.ensures.items) begun
