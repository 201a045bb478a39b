use Rattle.std.proofs.Common.{rules, ◌≡◌, Some, None}
use Rattle.isle_reading.specs.Combinators.{next_word}
use Rattle.isle_reading.specs.Views.{left}
use Rattle.isle_reading.proofs.Steps.{words-more, words-end}
use Rattle.isle_tables.specs.Words.{symbol_of}
use Rattle.isle_tables.specs.Reading.{more_operands}
use Rattle.isle_tables.proofs.Steps.{operand_next, operand_none}
use Rattle.isle_tables.proofs.operations.push_operands.Goals as goal

pub returns-in-None : goal.returns-in-None
returns-in-None c =
    let none : next_word symbol_of (left c.loop.tokens) ≡ None = search rules in
    words-end more_operands _ _ _ _ _ c.loop-test.true (operand_none _ _ none) (search rules) c.loop.invariant

pub loop-preserved : goal.loop-preserved
loop-preserved c =
    let some : next_word symbol_of (left c.loop.tokens) ≡ Some c.in-Some.word.now = search rules in
    words-more more_operands _ _ _ _ _ _ _ c.loop-test.true (operand_next _ _ _ _ some (search rules)) c.skip.ensures c.loop.invariant
