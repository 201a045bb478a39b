use Rattle.std.proofs.Common.{rules, ◌∙◌}
use Rattle.isle_core.proofs.InputLaws.{tries_more}
use Rattle.isle_units.proofs.PathLaws.{err_passed, fails_at, paths_more}
use Rattle.isle_units.proofs.paths.all_paths.Goals as goal

pub returns-in_err-push_input-clause-err : goal.returns-in_err-push_input-clause-err
returns-in_err-push_input-clause-err g c = err_passed c.from_residual.result c.in_err-push_input.field-0.0 _ c.from_residual.ensures.1 (
    fails_at _ _ c.args.inputs.now _ c.loop-index.index c.index-inputs-index.result (g.D.Dir.counts c.args.dir.now) (g.D.Dir.counts c.loop-index.dir) (g.D.Dir.counts c.push_input.new.dir)
    c.loop-index-test.true c.index-inputs-index.is c.loop-index.invariant.paths
    (rw (← c.as_str.ensures.value, ← c.loop-index.invariant.files) c.in_err-push_input.ensures.err) c.loop-index.invariant.faults
    c.loop-index.invariant.tried c.push_input.ensures.finds)

pub loop-index-preserved : goal.loop-index-preserved
loop-index-preserved g c = record {
  paths = paths_more _ c.args.inputs.now _ _ c.loop-index.index c.index-inputs-index.result c.loop-index-test.true c.index-inputs-index.is c.loop-index.invariant.paths
      (rw (← c.as_str.ensures.value, ← c.loop-index.invariant.files) c.in_ok-push_input.ensures.paths);
  files = search rules;
  faults = c.in_ok-push_input.ensures.steady ∙ c.loop-index.invariant.faults;
  tried = tries_more c.loop-index.index (g.D.Dir.counts c.args.dir.now).finds (g.D.Dir.counts c.loop-index.dir).finds (g.D.Dir.counts c.push_input.new.dir).finds c.loop-index.invariant.tried c.push_input.ensures.finds;
  given = c.push_input.ensures.given ∙ c.loop-index.invariant.given;
}
