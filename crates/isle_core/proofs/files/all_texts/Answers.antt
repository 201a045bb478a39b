use Rattle.std.proofs.Common.{rules, arith, ◌∙◌}
use Rattle.std.specs.String.{string_bytes}
use Rattle.isle_core.proofs.InputLaws.{fails_at, read_more, tries_more}
use Rattle.isle_core.proofs.files.all_texts.Goals as goal

pub returns-in-Err-clause-err : goal.returns-in-Err-clause-err
returns-in-Err-clause-err g c = rw c.at.ensures (
    fails_at c.in-Err.fail _ c.args.names.now c.loop-index.read.items c.loop-index.index c.index-names-index.result (g.D.Dir.counts c.args.dir.now) (g.D.Dir.counts c.loop-index.dir) (g.D.Dir.counts c.read_text.new.dir)
    c.loop-index-test.true c.index-names-index.is c.loop-index.invariant.read
    (rw (← c.as_str.ensures.value, ← c.loop-index.invariant.files) c.in-Err.ensures.exact) c.in-Err.ensures.faults c.loop-index.invariant.faults
    c.loop-index.invariant.tried c.in-Err.ensures.finds)

pub loop-index-preserved : goal.loop-index-preserved
loop-index-preserved g c = record {
  read = rw (c.in_ok-push.ensures.items, c.new-text.ensures) (
      read_more _ c.args.names.now c.loop-index.read.items c.loop-index.index c.index-names-index.result (string_bytes c.in-Ok.text)
      c.loop-index-test.true c.index-names-index.is c.loop-index.invariant.read
      (rw (← c.as_str.ensures.value, ← c.loop-index.invariant.files) c.in-Ok.ensures.exact));
  count = search rules;
  files = search rules;
  faults = c.in-Ok.ensures.faults ∙ c.loop-index.invariant.faults;
  tried = tries_more c.loop-index.index (g.D.Dir.counts c.args.dir.now).finds (g.D.Dir.counts c.loop-index.dir).finds (g.D.Dir.counts c.read_text.new.dir).finds c.loop-index.invariant.tried c.in-Ok.ensures.finds;
  given = omega (arith, c.loop-index.invariant.given, c.in-Ok.ensures.given);
}
