use Rattle.std.proofs.Common.{◌≡◌, ◌-◌, ◌∙◌, [], rules, ap, subst}
use Rattle.isle_reading.specs.Reader.{run}
use Rattle.isle_reading.specs.Views.{left, Refuses}
use Rattle.isle_reading.proofs.Steps.{passed, then_got, done_got, then_refuses, bind_refuses}
use Rattle.isle_answers.specs.Reading.{read_cases, read_answers}
use Rattle.isle_answers.proofs.reading.answered.Goals as goal

pub returns-in_err-cases : goal.returns-in_err-cases
unfolding read_answers
returns-in_err-cases c =
    let less : c.saturating_sub.result ≡ c.args.depth - 1 = search rules in
    let refused = subst (λ d. Refuses c.in_err-cases.field-0.0 (run (read_cases c.args.most d c.args.most []) (left c.callee.new.tokens))) less c.in_err-cases.ensures in
    passed _ _ _ _ _ c.from_residual-in_err-cases.ensures.1 (then_refuses _ _ _ _ _ _ c.in_ok-callee.ensures (bind_refuses _ _ _ _ refused))

pub returns : goal.returns
unfolding read_answers
returns c =
    let less : c.args.depth - 1 ≡ c.saturating_sub.result = search rules in
    let cases = ap (λ d. run (read_cases c.args.most d c.args.most []) (left c.callee.new.tokens)) less ∙ c.in_ok-cases.ensures in
    then_got _ _ _ _ _ _ c.in_ok-callee.ensures (then_got _ _ _ _ _ _ cases (search (rules, done_got)))
