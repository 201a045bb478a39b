use Rattle.std.proofs.Common.{rules}
use Rattle.isle_checks.proofs.MakerLaws.{maker_found, maker_passed}
use Rattle.isle_checks.proofs.notes.first_maker.Goals as goal

pub returns-then-makes : goal.returns-then-makes
returns-then-makes c = maker_found c.args.check c.args.makers.now c.loop-maker.maker-index c.maker-item.result c.args.other.now (search rules) c.maker-item.is c.loop-maker.invariant (search rules)

pub loop-maker-preserved : goal.loop-maker-preserved
loop-maker-preserved c = maker_passed c.args.check c.args.makers.now c.loop-maker.maker-index c.maker-item.result c.args.other.now (search rules) c.maker-item.is c.loop-maker.invariant (search rules)
