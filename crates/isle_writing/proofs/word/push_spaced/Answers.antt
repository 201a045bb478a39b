use Rattle.std.proofs.Common.{rules, ◌++◌, string_bytes}
use Rattle.isle_writing.specs.Text.{spaced}
use Rattle.isle_writing.proofs.SpacedNames.{spaced_next}
use Rattle.isle_writing.proofs.word.push_spaced.Goals as goal

pub loop-name-preserved : goal.loop-name-preserved
loop-name-preserved c = (
  search rules,
  spaced_next c.args.names.now c.loop-name.name-index _ c.loop-name.before.now c.name-item.result (string_bytes c.push_after.new.text) (string_bytes c.loop-name.text) (string_bytes c.args.text.now ++ spaced c.args.gap.now c.args.names.now)
      c.loop-name-test.true c.name-item.is c.loop-name.invariant.1 c.in_ok-push_after.ensures,
)
