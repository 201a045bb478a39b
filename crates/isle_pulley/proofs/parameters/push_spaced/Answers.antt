use Rattle.std.proofs.Common.{rules, ◌++◌, [], string_bytes}
use Rattle.isle_meta.specs.TableNames.{texts}
use Rattle.isle_writing.specs.Text.{spaced}
use Rattle.isle_pulley.proofs.PieceLaws.{types_next}
use Rattle.isle_pulley.proofs.parameters.push_spaced.Goals as goal

pub loop-ty-preserved : goal.loop-ty-preserved
loop-ty-preserved c = (
  search rules,
  types_next c.args.types.now c.loop-ty.ty-index _ c.loop-ty.before.now (string_bytes c.loop-ty.text) (string_bytes c.push_two.new.text) (string_bytes c.args.text.now ++ spaced [] (texts c.args.types.now)) c.loop-ty-test.true
      c.loop-ty.invariant.1 c.in_ok-push_two.ensures,
)
