use Rattle.isle_reading.proofs.Steps.{then_comes, then_refuses, bind_refuses, passed}
use Rattle.std.proofs.Common.{◌≤◌, length, arith}
use Rattle.isle_reading.proofs.Running.{got_shrinks}
use Rattle.isle_reading.specs.Views.{left}
use Rattle.isle_grammar.specs.Reading.{read_def}
use Rattle.isle_syntax.proofs.definition.definition.Goals as goal

pub returns-in_err-head : goal.returns-in_err-head
unfolding read_def
returns-in_err-head c = passed _ _ _ _ _ c.from_residual-in_err-head.ensures.1 (then_refuses _ _ _ _ _ _ c.in_ok-offset.ensures (bind_refuses _ _ _ _ c.in_err-head.ensures))

pub returns : goal.returns
unfolding read_def
returns c = then_comes _ _ _ _ _ _ _ _ c.in_ok-offset.ensures (then_comes _ _ _ _ _ _ _ _ c.in_ok-head.ensures (c.behind.ensures))

pub behind-requires : goal.behind-requires
behind-requires c =
    let a : length (left c.open_as.new.self) ≤ length (left c.args.tokens.now) = got_shrinks _ _ _ _ c.in_ok-offset.ensures in
    let b : length (left c.read_head.new.tokens) ≤ length (left c.open_as.new.self) = got_shrinks _ _ _ _ c.in_ok-head.ensures in
    omega (arith, a, b, c.requires)
