use Rattle.std.proofs.Common.{rules}
use Rattle.isle_settings.proofs.LineLaws.{lines_more}
use Rattle.isle_settings.proofs.text.push_presets.Goals as goal

pub loop-place-preserved : goal.loop-place-preserved
loop-place-preserved c = lines_more c.args.group.now c.loop-place.place c.preset-item.result _ _ _ _ _ (search rules) (search rules) c.loop-place.invariant
    (search rules) (search rules) c.in_ok-push_preset.ensures
