use Rattle.std.proofs.Common.{arith}
use Rattle.isle_settings.specs.declared.group.PresetItem.TheVariants as item
use Rattle.isle_settings.proofs.MarkLaws.{item_here}
use Rattle.isle_settings.proofs.presets.mark.Goals as goal

pub bounds-flags-flag : goal.bounds-flags-flag
bounds-flags-flag c = omega (arith, c.requires (item.Flag c.in-Flag.flag) (item_here c.args.items.now c.loop-item.item-index _ _ c.loop-item-test.true c.in-Flag.is), c.loop-item.invariant.flag_count)

pub bounds-presets-named : goal.bounds-presets-named
bounds-presets-named c = omega (arith, c.requires (item.Preset c.in-Preset.named) (item_here c.args.items.now c.loop-item.item-index _ _ c.loop-item-test.true c.in-Preset.is), c.loop-item.invariant.preset_count)
