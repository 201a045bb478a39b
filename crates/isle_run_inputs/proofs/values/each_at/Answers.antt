use Rattle.std.proofs.Common.{◌≡◌, ap, ◌∙◌}
use Rattle.std.specs.Prelude.{slice_get}
use Rattle.isle_values.specs.Views.{written}
use Rattle.isle_run_inputs.specs.ValuesAt.{value_at_any}
use Rattle.isle_core.proofs.Got.{got}
use Rattle.isle_run_inputs.proofs.Rest.{values_more}
use Rattle.isle_run_inputs.proofs.values.each_at.Goals as goal

pub loop-index-preserved : goal.loop-index-preserved
loop-index-preserved c = λ env e.
    let h = c.get.ensures.lookup in
    let ty : c.copied-ty.result ≡ slice_get c.args.tys.now c.loop-index.index = c.copied-ty.ensures ∙ got c.args.tys.now c.loop-index.index c.get.result h.1 h.3 in
    values_more env c.args.tys.now c.args.given.now c.loop-index.index c.index-given-index.result c.loop-index.found.items c.push.new.self.items c.in_ok-value_at_any.field-0 c.loop-index-test.true c.index-given-index.is
    (c.in_ok-value_at_any.ensures env e ∙ ap (λ t. value_at_any env t (written c.index-given-index.result)) ty) c.in_ok-push.ensures.items (c.loop-index.invariant env e)
