use Rattle.std.proofs.Common.{rules}
use Rattle.isle_values.specs.Views.{written}
use Rattle.isle_answers.proofs.MadeSteps.{no_only}
use Rattle.isle_answers.proofs.turns.only.Goals as goal

pub returns : goal.returns
returns c = no_only written c.args.parts (search rules)
