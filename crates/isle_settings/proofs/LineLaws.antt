-- The lines of presets, one more.
use Rattle.std.proofs.Common.{◌≡◌, ℕ, ◌+◌, ◌<◌, List, [], ◌∷◌, ◌++◌, length, take, get_or, refl, sym, ap, ◌∙◌, subst, append_assoc, arith}
use Rattle.std.proofs.lemmas.List.{append-nil, length-take-le, take_more}
use Rattle.isle_settings.specs.PresetClosure.{AreReached}
use Rattle.isle_settings.specs.TargetLines.{ArePresetLines, preset_line}
use Rattle.isle_settings.specs.declared.group.Preset.{Preset}
use Rattle.isle_settings.specs.declared.group.Setting.{Setting}
use Rattle.isle_settings.specs.declared.group.SettingGroup.{SettingGroup}

one_more : (group : SettingGroup) (start n : ℕ) (ps : List Preset) (p : Preset) (lines flags : List ℕ) → n ≡ start + length ps → ArePresetLines group start ps lines → AreReached group n flags
    → ArePresetLines group start (ps ++ p ∷ []) (lines ++ preset_line group.settings p flags)
one_more group start n [] p lines flags at h r =
    let here : n ≡ start = omega (arith, at) in
    (flags, [], subst (λ m. AreReached group m flags) here r, ap (λ text. text ++ preset_line group.settings p flags) h ∙ sym (append-nil (preset_line group.settings p flags)), refl)
one_more group start n (q ∷ ps) p lines flags at h r = (
  h.0,
  h.1 ++ preset_line group.settings p flags,
  h.2,
  ap (λ text. text ++ preset_line group.settings p flags) h.3 ∙ append_assoc (preset_line group.settings q h.0) h.1 (preset_line group.settings p flags),
  one_more group (start + 1) n ps p h.1 flags (omega (arith, at)) h.4 r,
)

-- the line of the next preset behind those before it
pub lines_more : (group : SettingGroup) (i : ℕ) (p : Preset) (old mid new : List ℕ) (settings : List Setting) (flags : List ℕ) → i < length group.presets → p ≡ get_or group.presets i p
    → (lines : List ℕ) × (mid ≡ old ++ lines) × ArePresetLines group 0 (take i group.presets) lines
    → settings ≡ group.settings → AreReached group i flags → new ≡ mid ++ preset_line settings p flags
    → (lines : List ℕ) × (new ≡ old ++ lines) × ArePresetLines group 0 (take (i + 1) group.presets) lines
lines_more group i p old mid new settings flags lt is h same r e =
    let line = preset_line group.settings p flags in
    let all : take (i + 1) group.presets ≡ take i group.presets ++ p ∷ [] = take_more group.presets i p lt ∙ ap (λ y. take i group.presets ++ y ∷ []) (sym is) in
    let count : length (take i group.presets) ≡ i = length-take-le i group.presets (omega arith) in (
      h.0 ++ line,
      e ∙ ap (λ ss. mid ++ preset_line ss p flags) same ∙ ap (λ text. text ++ line) h.1 ∙ append_assoc old h.0 line,
      subst (λ ps. ArePresetLines group 0 ps (h.0 ++ line)) (sym all) (one_more group 0 i (take i group.presets) p h.0 flags (omega (arith, count)) h.2 r),
    )
