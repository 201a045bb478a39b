use Rattle.std.proofs.Common.{◌∙◌, rules}
use Rattle.isle_reading.proofs.Steps.{then_got, done_got}
use Rattle.isle_syntax.proofs.TypeSteps.{variant_plain}
use Rattle.isle_syntax.proofs.body.variant.Goals as goal

pub returns-in_ok-name-in-None : goal.returns-in_ok-name-in-None
returns-in_ok-name-in-None c = variant_plain _ _ (search rules) ∙ then_got _ _ _ _ _ _ c.in_ok-name-in-None.ensures (search (rules, done_got))
