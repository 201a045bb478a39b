use Rattle.std.proofs.Common.{◌∙◌, rules, ap}
use Rattle.isle_reading.specs.Reader.{run}
use Rattle.isle_reading.specs.Views.{left}
use Rattle.isle_values.proofs.Sees.{sees}
use Rattle.isle_answers.specs.HeadViews.{result_head_seen}
use Rattle.isle_reading.proofs.Steps.{then_got, done_got}
use Rattle.isle_answers.specs.Reading.{read_result_after}
use Rattle.isle_answers.proofs.result.result_after.Goals as goal

pub returns-in-Tuple : goal.returns-in-Tuple
unfolding read_result_after
returns-in-Tuple c = ap (λ h. run (read_result_after c.args.most c.args.depth (result_head_seen h)) (left c.args.tokens.now)) c.in-Tuple.is ∙ then_got _ _ _ _ _ _ c.in_ok-parts.ensures (search (rules, done_got))

pub returns-in-Made : goal.returns-in-Made
unfolding read_result_after
returns-in-Made c = ap (λ h. run (read_result_after c.args.most c.args.depth (result_head_seen h)) (left c.args.tokens.now)) c.in-Made.is ∙ then_got _ _ _ _ _ _ c.in_ok-parts.ensures (search (rules, done_got, sees))
