use Rattle.std.proofs.Common.{ℕ, List, map, ap, sym, ◌∙◌}
use Rattle.isle_terms.proofs.TermSteps.{next_is, type_more, type_none}
use Rattle.isle_terms.proofs.named_types.field_types.Goals as goal

pub loop-field-preserved : goal.loop-field-preserved
loop-field-preserved c =
    λ defs h.
    type_more defs c.loop-field.types.items c.push.new.self.items c.field-item.result.1 c.in-Some.ty _ _ _ (ap (map (λ (f : List ℕ × List ℕ). f.1)) (next_is c.args.fields.now c.loop-field.field-index c.field-item.result _ c.loop-field-test.true c.field-item.is)) c.in_ok-push-in-Some.ensures.items (sym c.in-Some.is ∙ c.type_named.ensures defs h) (c.loop-field.invariant defs h)

pub returns-in-None : goal.returns-in-None
returns-in-None c = λ defs h. type_none defs c.loop-field.types.items c.field-item.result.1 _ _ _ (ap (map (λ (f : List ℕ × List ℕ). f.1)) (next_is c.args.fields.now c.loop-field.field-index c.field-item.result _ c.loop-field-test.true c.field-item.is)) (sym c.in-None.is ∙ c.type_named.ensures defs h) (c.loop-field.invariant defs h)
