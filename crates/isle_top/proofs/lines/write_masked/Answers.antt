use Rattle.std.proofs.Common.{arith}
use Rattle.isle_core.specs.ErrorLines.{masked}
use Rattle.isle_top.proofs.Pieces.{took_run, took_until}
use Rattle.isle_top.proofs.lines.write_masked.Goals as goal

pub loop-start-preserved : goal.loop-start-preserved
loop-start-preserved g c = record {
  taken = took_run masked c.as_bytes-bytes.result.now c.loop-start.start _ (g.S.Sink.taken c.loop-start.sink) _ c.piece_at-piece.result.now c.piece_at-piece.ensures.shown c.loop-start.invariant.taken c.in-Ok.ensures.ok;
  within = c.piece_at-piece.ensures.within;
  later = omega (arith, c.loop-start.invariant.later, c.in-Ok.ensures.later);
}

pub returns-in-Err-clause-part : goal.returns-in-Err-clause-part
returns-in-Err-clause-part g c = rw (← c.as_bytes-bytes.ensures.value) (
    took_until masked c.as_bytes-bytes.result.now c.loop-start.start _ (g.S.Sink.taken c.loop-start.sink) _ c.piece_at-piece.result.now c.piece_at-piece.ensures.shown c.loop-start.invariant.taken c.in-Err.ensures.part)
