use Rattle.std.proofs.Common.{◌≡◌, [], map, sym, ap, ◌∙◌, subst}
use Rattle.isle_core.specs.BlockViews.{step}
use Rattle.isle_core.specs.Path.{paths_of}
use Rattle.isle_blocks.specs.Arranged.{AreArranged, arranged_way}
use Rattle.isle_blocks.specs.Tables.{ground}
use Rattle.isle_blocks.specs.Ways.{way, parted_way, way_of}
use Rattle.isle_blocks.proofs.StepLaws.{tree_seen}
use Rattle.isle_blocks.proofs.serialization.tree_of.Goals as goal

pub returns : goal.returns
returns c =
    let t = c.args.tables.now in
    let ws = map way c.in_ok-ways.ways.items in
    let all = c.in_ok-arranged.arranged.items in
    let parts : map parted_way c.as_slice-2.result.now ≡ map (way_of t.several (paths_of t.bindings.now)) c.args.rules.now =
    ap (map parted_way) c.as_slice-2.ensures.value ∙ c.in_ok-parted.ensures (paths_of t.bindings.now) (c.as_slice.ensures.value ∙ c.in_ok-free.ensures) in
    let named : ws ≡ map arranged_way all = c.in_ok-ways.ensures ∙ ap (map arranged_way) c.as_slice-3.ensures.value in
    record {
      ways = ws;
      arranged = subst (AreArranged t.several t.bindings.now c.args.rules.now) (sym named) (c.in_ok-arranged.ensures c.args.rules.now parts);
      tree = tree_seen (ground t) ws (map way c.as_slice-5.result.now) [] c.new-bound.result (map step c.in_ok-steps.steps.items) _ c.block_of.ensures (ap (map way) c.as_slice-5.ensures.value) c.new-bound.ensures c.in_ok-steps.ensures.tree;
    }
