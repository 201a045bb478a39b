use Rattle.isle_prelude.proofs.FirstLaws.{first_next}
use Rattle.isle_prelude.proofs.first_fields.first_fields.Goals as goal

pub loop-field-preserved : goal.loop-field-preserved
loop-field-preserved c = first_next c.args.fields.now c.loop-field.field-index c.field-item.result c.note_first.new.types c.loop-field-test.true c.field-item.is (c.in_ok-note_first.ensures _ c.loop-field.invariant)
