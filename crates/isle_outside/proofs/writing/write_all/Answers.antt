use Rattle.std.proofs.Common.{◌∙◌, arith}
use Rattle.isle_outside.proofs.TakeLaws.{took_next}
use Rattle.isle_outside.proofs.writing.write_all.Goals as goal

pub loop-at-preserved : goal.loop-at-preserved
loop-at-preserved g c = record {
  within = omega (arith, c.in-Ok.ensures.within);
  taken = took_next _ _ _ _ _ _ c.loop-at.invariant.taken c.in-Ok.ensures.taken;
  steady = c.in-Ok.ensures.steady ∙ c.loop-at.invariant.steady;
}
