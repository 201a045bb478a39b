use Rattle.std.proofs.Common.{rules, map}
use Rattle.isle_values.specs.Views.{written}
use Rattle.isle_answers.proofs.MadeSteps.{made_tuple}
use Rattle.isle_answers.proofs.turns.made_result.Goals as goal

pub returns-then-eq : goal.returns-then-eq
returns-then-eq c = made_tuple c.args.name (map written c.args.parts) (search rules)
