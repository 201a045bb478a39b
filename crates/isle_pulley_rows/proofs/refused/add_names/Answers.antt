use Rattle.isle_pulley_rows.proofs.RefusedLaws.{names_add}
use Rattle.isle_pulley_rows.proofs.refused.add_names.Goals as goal

pub loop-name-preserved : goal.loop-name-preserved
loop-name-preserved c = λ earlier has.
    names_add earlier c.args.names.now c.loop-name.name-index _ c.added.new.names c.loop-name-test.true (c.in_ok-added.ensures.more _ (c.loop-name.invariant earlier has))
