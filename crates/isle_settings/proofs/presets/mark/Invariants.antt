use Rattle.std.proofs.Common.{◌≡◌, drop, length}
use Rattle.isle_settings.specs.Marks.{with_flags, with_presets}
use Rattle.isle_settings.proofs.presets.mark.Given as goal

abbrev pub invariant-loop-item : goal.invariant-loop-item
invariant-loop-item l = record {
  presets : with_presets (drop l.item-index l.items) l.presets ≡ with_presets l.items l.fn.presets;
  flags : with_flags (drop l.item-index l.items) l.flags ≡ with_flags l.items l.fn.flags;
  preset_count : length l.presets ≡ length l.fn.presets;
  flag_count : length l.flags ≡ length l.fn.flags;
}
