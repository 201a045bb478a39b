use Rattle.std.proofs.Common.{sym, ◌∙◌}
use Rattle.isle_terms.proofs.TermSteps.{next_is, type_more, type_none}
use Rattle.isle_terms.proofs.named_types.plain_types.Goals as goal

pub loop-name-preserved : goal.loop-name-preserved
loop-name-preserved c =
    λ defs h.
    type_more defs c.loop-name.types.items c.push.new.self.items c.name-item.result c.in-Some.ty _ _ _ (next_is c.args.names.now c.loop-name.name-index c.name-item.result _ c.loop-name-test.true c.name-item.is) c.in_ok-push-in-Some.ensures.items (sym c.in-Some.is ∙ c.type_named.ensures defs h) (c.loop-name.invariant defs h)

pub returns-in-None : goal.returns-in-None
returns-in-None c = λ defs h. type_none defs c.loop-name.types.items c.name-item.result _ _ _ (next_is c.args.names.now c.loop-name.name-index c.name-item.result _ c.loop-name-test.true c.name-item.is) (sym c.in-None.is ∙ c.type_named.ensures defs h) (c.loop-name.invariant defs h)
