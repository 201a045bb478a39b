use Rattle.std.proofs.Common.{◌∙◌, ap, arith, sym}
use Rattle.isle_settings.specs.declared.group.Preset.{Preset}
use Rattle.isle_settings.proofs.ReachLaws.{iff_trans, known_mark, known_skip, may_mark, unmarked_at}
use Rattle.isle_settings.proofs.presets.mark_all.Goals as goal

pub mark-requires : goal.mark-requires
mark-requires c = may_mark c.args.all.now _ _ _ _ c.index-all-place.result _ (c.as_slice.ensures ∙ ap (λ (p : Preset). p.items) (sym c.index-all-place.is)) c.index-all-place.is
    (omega (arith, c.requires.there, c.loop-place.auto.place, c.loop-place.invariant.preset_count)) (omega (arith, c.loop-place.auto.place, c.loop-place.invariant.preset_count))
    c.loop-place.invariant.flag_count c.requires.lawful

pub loop-place-preserved-then-presets-place : goal.loop-place-preserved-then-presets-place
loop-place-preserved-then-presets-place c = record {
  marks = λ flag. iff_trans (c.loop-place.invariant.marks flag)
      (known_mark c.args.all.now _ _ _ _ _ c.loop-place.place c.index-all-place.result _ flag (c.as_slice.ensures ∙ ap (λ (p : Preset). p.items) (sym c.index-all-place.is)) c.index-all-place.is
      c.loop-place-test.true (omega (arith, c.loop-place.auto.place, c.loop-place.invariant.preset_count)) (omega (arith, c.requires.there, c.loop-place.invariant.preset_count)) c.if-presets-place.true
      c.mark.ensures.presets c.mark.ensures.flags c.loop-place.invariant.flag_count c.requires.lawful);
  preset_count = c.mark.ensures.preset_count ∙ c.loop-place.invariant.preset_count;
  flag_count = c.mark.ensures.flag_count ∙ c.loop-place.invariant.flag_count;
}

pub loop-place-preserved : goal.loop-place-preserved
loop-place-preserved c = record {
  marks = λ flag. iff_trans (c.loop-place.invariant.marks flag)
      (known_skip c.args.all.now c.loop-place.presets c.loop-place.flags c.loop-place.place flag c.loop-place-test.true
      (unmarked_at c.loop-place.presets _ (omega (arith, c.loop-place.auto.place, c.loop-place.invariant.preset_count)) c.if-presets-place.false));
  preset_count = c.loop-place.invariant.preset_count;
  flag_count = c.loop-place.invariant.flag_count;
}
