use Rattle.std.proofs.Common.{◌∙◌, ap}
use Rattle.isle_prelude.specs.Sizes.{with_size}
use Rattle.isle_prelude.proofs.SizeLaws.{sizes_next, value_size}
use Rattle.isle_prelude.proofs.arrays.value_array_sizes.Goals as goal

pub loop-format-preserved : goal.loop-format-preserved
loop-format-preserved c =
    sizes_next value_size c.args.formats.now c.loop-format.format-index c.format-item.result c.loop-format.sizes.keys c.put.new.sizes.keys _ c.loop-format-test.true c.format-item.is
    (c.in_ok-put.ensures ∙ ap (with_size c.loop-format.sizes.keys) c.value_array_size.ensures) c.loop-format.invariant
