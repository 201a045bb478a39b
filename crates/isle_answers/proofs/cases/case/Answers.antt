use Rattle.std.proofs.Common.{◌≡◌, ◌-◌, ◌∙◌, rules, ap}
use Rattle.isle_reading.specs.Reader.{run}
use Rattle.isle_reading.specs.Views.{left}
use Rattle.isle_reading.proofs.Steps.{passed, then_got, done_got, then_refuses, bind_refuses}
use Rattle.isle_values.specs.Reading.{read_list}
use Rattle.isle_answers.specs.Reading.{read_case}
use Rattle.isle_answers.proofs.cases.case.Goals as goal

pub returns-in_err-found : goal.returns-in_err-found
unfolding read_case
returns-in_err-found c =
    let less : c.args.depth - 1 ≡ c.saturating_sub.result = search rules in
    let args = ap (λ d. run (read_list c.args.most d) (left c.args.tokens.now)) less ∙ c.in_ok-args.ensures in
    passed _ _ _ _ _ c.from_residual-in_err-found.ensures.1 (then_refuses _ _ _ _ _ _ args (bind_refuses _ _ _ _ c.in_err-found.ensures))

pub returns-in_err-close : goal.returns-in_err-close
unfolding read_case
returns-in_err-close c =
    let less : c.args.depth - 1 ≡ c.saturating_sub.result = search rules in
    let args = ap (λ d. run (read_list c.args.most d) (left c.args.tokens.now)) less ∙ c.in_ok-args.ensures in
    passed _ _ _ _ _ c.from_residual-in_err-close.ensures.1 (then_refuses _ _ _ _ _ _ args (then_refuses _ _ _ _ _ _ c.in_ok-found.ensures (bind_refuses _ _ _ _ c.in_err-close.ensures)))

pub returns : goal.returns
unfolding read_case
returns c =
    let less : c.args.depth - 1 ≡ c.saturating_sub.result = search rules in
    let args = ap (λ d. run (read_list c.args.most d) (left c.args.tokens.now)) less ∙ c.in_ok-args.ensures in
    then_got _ _ _ _ _ _ args (then_got _ _ _ _ _ _ c.in_ok-found.ensures (then_got _ _ _ _ _ _ c.in_ok-close.ensures (search (rules, done_got))))
