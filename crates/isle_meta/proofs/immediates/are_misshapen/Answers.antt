use Rattle.isle_meta.proofs.ImmediateLaws.{shaped_on, shaped_all}
use Rattle.isle_meta.proofs.immediates.are_misshapen.Goals as goal

pub loop-field-preserved : goal.loop-field-preserved
loop-field-preserved c = λ earlier knows.
    let s = c.loop-field.invariant earlier knows in
    shaped_on earlier c.args.fields.now c.loop-field.field-index c.field-item.result c.loop-field.types c.is_misshapen.new.types c.in_ok-found.found c.loop-field-test.true c.field-item.is c.if-found.false (c.in_ok-found.ensures.told _ s.known)
    (c.in_ok-found.ensures.more _ s.known c.if-found.false) s

pub returns-clause-more : goal.returns-clause-more
returns-clause-more c = λ earlier knows e. shaped_all earlier c.args.fields.now c.loop-field.field-index c.loop-field.types c.loop-field-test.false (c.loop-field.invariant earlier knows)
