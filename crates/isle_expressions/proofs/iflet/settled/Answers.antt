use Rattle.std.proofs.Common.{◌∙◌, rules, ap}
use Rattle.isle_reading.specs.Reader.{run}
use Rattle.isle_reading.specs.Views.{left}
use Rattle.isle_reading.proofs.Steps.{then_got, done_got}
use Rattle.isle_grammar.specs.Reading.{settled}
use Rattle.isle_expressions.specs.ReadingViews.{form_seen}
use Rattle.isle_expressions.proofs.iflet.settled.Goals as goal

pub returns-in-Right : goal.returns-in-Right
returns-in-Right c = ap (λ f. run (settled (form_seen f)) (left c.args.tokens.now)) c.in-Right.is ∙ then_got _ _ _ _ _ _ c.in_ok-close-in-Right.ensures (search (rules, done_got))
