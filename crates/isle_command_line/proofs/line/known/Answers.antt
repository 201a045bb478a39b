use Rattle.std.proofs.Common.{rules, ◌≡◌, Some, None, subst}
use Rattle.std.specs.String.{string_bytes}
use Rattle.isle_core.specs.Inputs.{bytes_each}
use Rattle.isle_command_line.specs.Reading.{next, StopsAt}
use Rattle.isle_command_line.specs.Views.{seen_state}
use Rattle.isle_command_line.proofs.Steps.{one_word, stops_at}
use Rattle.isle_command_line.proofs.line.known.Goals as goal

pub returns-in-Err-Bad-clause-bad : goal.returns-in-Err-Bad-clause-bad
returns-in-Err-Bad-clause-bad c i e =
    let same : c.loop-index.index ≡ i = cc in
    let none : next (seen_state c.loop-index.state) (string_bytes c.index-words-index.result) ≡ None = search rules in
    subst (StopsAt (bytes_each c.args.words.now)) same
    (stops_at c.args.words.now c.loop-index.index c.index-words-index.result (seen_state c.loop-index.state) c.loop-index-test.true c.index-words-index.is c.loop-index.invariant none)

pub loop-index-preserved : goal.loop-index-preserved
loop-index-preserved c =
    let some : next (seen_state c.loop-index.state) (string_bytes c.index-words-index.result) ≡ Some (seen_state c.in-Ok.state) = search rules in
    one_word c.args.words.now c.loop-index.index c.index-words-index.result (seen_state c.loop-index.state) (Some (seen_state c.in-Ok.state)) c.loop-index-test.true c.index-words-index.is c.loop-index.invariant some
