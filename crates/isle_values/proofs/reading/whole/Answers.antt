use Rattle.std.proofs.Common.{◌≡◌, ◌∙◌, map, ap, sym, subst, Some}
use Rattle.isle_reading.specs.Reader.{Got, run}
use Rattle.isle_reading.specs.Views.{left, stops}
use Rattle.isle_reading.proofs.Steps.{then_got, bind_got}
use Rattle.isle_values.specs.Reading.{read_list, read_whole}
use Rattle.isle_values.specs.Views.{written}
use Rattle.isle_values.proofs.ValueSteps.{end_got, end_stops}
use Rattle.isle_values.proofs.reading.whole.Goals as goal

pub returns-then-len-eq0 : goal.returns-then-len-eq0
unfolding read_whole
returns-then-len-eq0 c =
    let list = subst (λ d. run (read_list c.args.most d) (left c.args.tokens.now) ≡ Got (map written c.in_ok-values.values.items) (left c.list.new.tokens)) c.most_inside.ensures c.in_ok-values.ensures in
    then_got _ _ _ _ _ _ list (end_got _ _ (sym c.len.ensures ∙ c.if-len-eq0.true))

pub returns : goal.returns
unfolding read_whole
returns c =
    let list = subst (λ d. run (read_list c.args.most d) (left c.args.tokens.now) ≡ Got (map written c.in_ok-values.values.items) (left c.list.new.tokens)) c.most_inside.ensures c.in_ok-values.ensures in
    ap stops (bind_got _ _ _ _ _ list) ∙ end_stops _ _ (λ e. c.if-len-eq0.false (c.len.ensures ∙ e)) ∙ ap Some (sym c.len-2.ensures)
