use Rattle.std.proofs.Common.{◌≡◌, ◌∙◌, ◌-◌, ◌+◌, ◌∷◌, map, rules, sym, ap, true, false, Some, None}
use Rattle.std.specs.Prelude.{is_some, option_map, reverse}
use Rattle.isle_reading.specs.Reader.{run}
use Rattle.isle_reading.specs.Views.{left, closes}
use Rattle.isle_reading.proofs.Steps.{passed}
use Rattle.isle_answers.specs.Reading.{ended, read_turns}
use Rattle.isle_answers.specs.Views.{answer_seen}
use Rattle.isle_answers.proofs.TurnSteps.{turns_end, turns_stop, turns_refuse, turns_more, last_seen, some_at, none_at}
use Rattle.isle_answers.proofs.turns.turns.Goals as goal

pub returns-in-Some : goal.returns-in-Some
returns-in-Some c =
    let closed : is_some (closes (left c.loop.tokens)) ≡ true = search rules in
    let x = some_at (closes (left c.loop.tokens)) closed in
    let rest : ended (reverse (map answer_seen c.loop.turns.items)) ≡ Some (map answer_seen c.ended.new.turns.items, answer_seen c.in-Some.rest) =
    sym c.in_ok-rest.ensures ∙ ap (option_map (λ a. (map answer_seen c.ended.new.turns.items, answer_seen a))) c.in-Some.is in
    turns_end _ _ _ _ x.0 _ _ _ _ _ c.loop-test.true x.1 c.skip.ensures rest c.loop.invariant

pub returns-in-None : goal.returns-in-None
returns-in-None c =
    let closed : is_some (closes (left c.loop.tokens)) ≡ true = search rules in
    let x = some_at (closes (left c.loop.tokens)) closed in
    let rest : ended (reverse (map answer_seen c.loop.turns.items)) ≡ None = sym c.in_ok-rest.ensures ∙ ap (option_map (λ a. (map answer_seen c.ended.new.turns.items, answer_seen a))) c.in-None.is in
    turns_stop _ _ _ _ x.0 _ _ _ c.loop-test.true x.1 rest c.loop.invariant ∙ ap Some (sym c.len.ensures)

pub returns-in_err-answer : goal.returns-in_err-answer
returns-in_err-answer c =
    let open_ : is_some (closes (left c.loop.tokens)) ≡ false = search rules in
    passed _ _ _ _ _ c.from_residual-in_err-answer.ensures.1 (turns_refuse _ _ _ _ _ _ _ _ c.loop-test.true (none_at (closes (left c.loop.tokens)) open_) c.in_err-answer.ensures c.loop.invariant)

pub loop-preserved : goal.loop-preserved
loop-preserved c =
    let open_ : is_some (closes (left c.loop.tokens)) ≡ false = search rules in
    let done = reverse (map answer_seen c.loop.turns.items) in
    let a = answer_seen c.in_ok-answer.field-0 in
    let pushed : reverse (map answer_seen c.push.new.self.items) ≡ a ∷ done = ap (λ z. reverse (map answer_seen z)) c.in_ok-push.ensures.items ∙ last_seen answer_seen c.loop.turns.items c.in_ok-answer.field-0 in
    ap (λ z. run (read_turns c.args.most c.args.depth (c.args.most - (c.loop.counter + 1)) z) (left c.answer.new.tokens)) pushed
    ∙ turns_more _ _ _ _ done _ _ a _ c.loop-test.true (none_at (closes (left c.loop.tokens)) open_) c.in_ok-answer.ensures c.loop.invariant
