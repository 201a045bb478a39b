use Rattle.std.proofs.Common.{rules}
use Rattle.isle_reading.proofs.Steps.{then_got, done_got, then_refuses, bind_refuses, passed}
use Rattle.std.proofs.Common.{◌≤◌, length, arith}
use Rattle.isle_reading.proofs.Running.{got_shrinks}
use Rattle.isle_reading.specs.Views.{left}
use Rattle.isle_grammar.specs.Reading.{read_rule}
use Rattle.isle_syntax.proofs.definition.rule.Goals as goal

pub returns-in_err-prio : goal.returns-in_err-prio
unfolding read_rule
returns-in_err-prio c = passed _ _ _ _ _ c.from_residual-in_err-prio.ensures.1 (then_refuses _ _ _ _ _ _ c.in_ok-name.ensures (bind_refuses _ _ _ _ c.in_err-prio.ensures))

pub returns-in_err-term : goal.returns-in_err-term
unfolding read_rule
returns-in_err-term c = passed _ _ _ _ _ c.from_residual-in_err-term.ensures.1 (then_refuses _ _ _ _ _ _ c.in_ok-name.ensures (then_refuses _ _ _ _ _ _ c.in_ok-prio.ensures (bind_refuses _ _ _ _ c.in_err-term.ensures)))

pub returns-in_err-iflets : goal.returns-in_err-iflets
unfolding read_rule
returns-in_err-iflets c = passed _ _ _ _ _ c.from_residual-in_err-iflets.ensures.1 (then_refuses _ _ _ _ _ _ c.in_ok-name.ensures (then_refuses _ _ _ _ _ _ c.in_ok-prio.ensures (then_refuses _ _ _ _ _ _ c.in_ok-term.ensures (bind_refuses _ _ _ _ c.in_err-iflets.ensures))))

pub returns : goal.returns
unfolding read_rule
returns c = then_got _ _ _ _ _ _ c.in_ok-name.ensures (then_got _ _ _ _ _ _ c.in_ok-prio.ensures (then_got _ _ _ _ _ _ c.in_ok-term.ensures (then_got _ _ _ _ _ _ c.in_ok-iflets.ensures (search (rules, done_got)))))

pub tail-requires : goal.tail-requires
tail-requires c =
    let a : length (left c.rule_name.new.tokens) ≤ length (left c.args.tokens.now) = got_shrinks _ _ _ _ c.in_ok-name.ensures in
    let b : length (left c.prio.new.tokens) ≤ length (left c.rule_name.new.tokens) = got_shrinks _ _ _ _ c.in_ok-prio.ensures in
    let d : length (left c.parts.new.tokens) ≤ length (left c.prio.new.tokens) = got_shrinks _ _ _ _ c.in_ok-term.ensures in
    omega (arith, a, b, d, c.requires)
