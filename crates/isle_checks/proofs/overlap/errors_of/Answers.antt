use Rattle.std.proofs.Common.{rules}
use Rattle.isle_checks.proofs.TermErrors.{set_more}
use Rattle.isle_checks.proofs.overlap.errors_of.Goals as goal

pub loop-set-preserved : goal.loop-set-preserved
loop-set-preserved c = λ env same built sets.
    set_more env c.args.sets.now c.loop-set.set-index c.set-item.result c.loop-set.errors.items c.push_term.new.errors.items (search rules) c.set-item.is sets (λ stands so_far. c.in_ok-push_term.ensures env _ same built stands so_far) (c.loop-set.invariant env same built sets)
