use Rattle.std.proofs.Common.{rules, sym, ◌∙◌}
use Rattle.isle_blocks.proofs.FieldLaws.{no_field_more, field_more}
use Rattle.isle_blocks.proofs.fields.fields_of.Goals.{in-Some+in_ok-insert+in_ok-insert-2, in_default}
use Rattle.isle_blocks.proofs.fields.fields_of.Goals as goal

pub loop-place-preserved : goal.loop-place-preserved
loop-place-preserved c = elim c.match-field_at.branch [
  | in-Some+in_ok-insert+in_ok-insert-2 w ↦
      rw (w.found-is, w.counts-is)
      (field_more c.args.bindings.now c.loop-place.place c.index-bindings-place.result w.in-Some.shown w.in-Some.field c.loop-place.found w.insert-in-Some.new.self c.loop-place.counts w.insert.new.self c.loop-place-test.true
      c.index-bindings-place.is (sym c.field_at.ensures ∙ w.in-Some.is) c.loop-place.invariant (search rules) (search rules))
  | in_default w ↦
      rw (w.found-is, w.counts-is)
      (no_field_more c.args.bindings.now c.loop-place.place c.index-bindings-place.result _ _ c.loop-place-test.true c.index-bindings-place.is (sym c.field_at.ensures ∙ w.in_default.is) c.loop-place.invariant)
]
