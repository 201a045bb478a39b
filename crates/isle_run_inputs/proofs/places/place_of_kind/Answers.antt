use Rattle.std.proofs.Common.{rules, ◌+◌, sym, ◌∙◌, ap}
use Rattle.isle_run_inputs.proofs.KindPlaces.{left_place, place_here, place_later, place_past, place_out}
use Rattle.isle_run_inputs.proofs.places.place_of_kind.Goals as goal
use Rattle.isle_run_inputs.proofs.places.place_of_kind.Goals.{then-is_of+else-left-eq0, else-is_of}

pub returns-then-left-eq0 : goal.returns-then-left-eq0
returns-then-left-eq0 c end more =
    c.place_of.ensures
    ∙ sym (place_here c.args.kind c.args.forms.now c.loop-form.form-index c.form-item.result end more c.loop-form.left c.loop-form-test.true c.form-item.is (sym c.is_of.ensures ∙ c.if-is_of.true) c.if-left-eq0.true)
    ∙ c.loop-form.invariant end more

pub loop-form-preserved : goal.loop-form-preserved
loop-form-preserved c end more =
    elim c.if-is_of.branch [
      | then-is_of+else-left-eq0 w ↦
          ap (left_place c.args.kind c.args.forms.now (c.loop-form.form-index + 1) end more) w.left-is
          ∙ sym (place_later c.args.kind c.args.forms.now c.loop-form.form-index c.form-item.result end more c.loop-form.left c.loop-form-test.true c.form-item.is (sym c.is_of.ensures ∙ w.if-is_of.true) (search rules))
          ∙ c.loop-form.invariant end more
      | else-is_of w ↦
          ap (left_place c.args.kind c.args.forms.now (c.loop-form.form-index + 1) end more) w.left-is
          ∙ sym (place_past c.args.kind c.args.forms.now c.loop-form.form-index c.form-item.result end more c.loop-form.left c.loop-form-test.true c.form-item.is (sym c.is_of.ensures ∙ w.if-is_of.false))
          ∙ c.loop-form.invariant end more
    ]

pub returns : goal.returns
returns c end more = sym (place_out c.args.kind c.args.forms.now c.loop-form.form-index end more c.loop-form.left c.loop-form-test.false) ∙ c.loop-form.invariant end more
