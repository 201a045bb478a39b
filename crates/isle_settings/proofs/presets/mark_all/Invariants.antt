use Rattle.std.proofs.Common.{◌≡◌, ◌⊎◌, ℕ, length}
use Rattle.std.specs.Prelude.{◌↔◌}
use Rattle.isle_settings.specs.Marks.{IsMarked, IsPending}
use Rattle.isle_settings.proofs.presets.mark_all.Given as goal

abbrev pub invariant-loop-place : goal.invariant-loop-place
invariant-loop-place l = record {
  marks : (flag : ℕ) → (IsMarked l.fn.flags flag ⊎ IsPending l.all l.fn.presets (length l.fn.presets) flag)
      ↔ (IsMarked l.flags flag ⊎ IsPending l.all l.presets l.place flag);
  preset_count : length l.presets ≡ length l.fn.presets;
  flag_count : length l.flags ≡ length l.fn.flags;
}
