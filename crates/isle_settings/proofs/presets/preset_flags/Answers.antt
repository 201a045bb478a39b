use Rattle.isle_settings.proofs.PlaceLaws.{places_reached}
use Rattle.isle_settings.proofs.presets.preset_flags.Goals as goal

pub returns : goal.returns
returns c = places_reached _ c.args.group.now c.args.preset _ _ c.marked.ensures c.as_slice.ensures.value c.in_ok-marks.ensures
