use Rattle.std.proofs.Common.{refl, rules}
use Rattle.isle_core.specs.ValueViews.{meaning}
use Rattle.isle_run.proofs.LeftOut.{set_given}
use Rattle.isle_run.proofs.left_out.given.Goals as goal

pub returns : goal.returns
returns c =
    set_given (meaning c.args.answers.now) c.args.answers.now.consts c.set_of.result c.push_given.new.names.items c.as_slice-2.result.now refl c.as_slice-2.ensures.value (search rules) c.set_of.ensures
