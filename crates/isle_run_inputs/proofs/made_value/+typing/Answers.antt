use Rattle.std.proofs.Common.{◌≡◌, ◌∙◌, ap, sym, rules, length, option_map}
use Rattle.isle_core.specs.HasType.{typed_fields}
use Rattle.isle_run_inputs.specs.MakerViews.{field_seen}
use Rattle.isle_run_inputs.proofs.InFields.{differ, fields_stop, fields_more, fields_end}
use Rattle.isle_run_inputs.proofs.made_value.+typing.Goals as goal

pub fields_in-returns-then-field_count-parts : goal.fields_in-returns-then-field_count-parts
fields_in-returns-then-field_count-parts t c = λ env e. differ env (typed_fields env c.args.given.now) c.args.parts.now (λ same. c.if-field_count-parts.true (c.field_count.ensures env ∙ same))

pub fields_in-returns-in-None : goal.fields_in-returns-in-None
fields_in-returns-in-None t c = λ env e.
    fields_stop env (typed_fields env c.args.given.now) c.args.parts.now c.loop-index.index c.index-parts-index.result c.loop-index.found.items _ c.loop-index-test.true c.index-parts-index.is
    (sym (ap (option_map field_seen) c.in-None.is) ∙ c.in_ok-field.ensures env e) (c.loop-index.invariant env e)

pub fields_in-loop-index-preserved : goal.fields_in-loop-index-preserved
fields_in-loop-index-preserved t c = λ env e.
    fields_more env (typed_fields env c.args.given.now) c.args.parts.now c.loop-index.index c.index-parts-index.result c.in-Some.field c.loop-index.found.items c.push.new.self.items _ c.loop-index-test.true c.index-parts-index.is
    (sym (ap (option_map field_seen) c.in-Some.is) ∙ c.in_ok-field.ensures env e) c.in_ok-push-in-Some.ensures.items (c.loop-index.invariant env e)

pub fields_in-returns : goal.fields_in-returns
fields_in-returns t c = λ env e.
    let same : c.field_count.result ≡ length c.args.parts.now = search rules in
    fields_end env (typed_fields env c.args.given.now) c.args.parts.now c.loop-index.index c.loop-index.found.items _ (sym (c.field_count.ensures env) ∙ same) (search rules) (c.loop-index.invariant env e)
