use Rattle.std.proofs.Common.{◌≡◌, ◌-◌}
use Rattle.isle_reading.specs.Reader.{run}
use Rattle.isle_reading.specs.Combinators.{words_from}
use Rattle.isle_reading.specs.Views.{left}
use Rattle.isle_grammar.specs.Grammar.{no_marks, with_mark}
use Rattle.isle_syntax.specs.ReadingViews.{marks_seen}
use Rattle.isle_syntax.proofs.flags.read_marks.Given as goal

-- the rest reads as all
abbrev pub invariant-loop : goal.invariant-loop
invariant-loop l = run (words_from (2 - l.counter) with_mark (marks_seen l.marks)) (left l.tokens) ≡ run (words_from 2 with_mark no_marks) (left l.fn.tokens)
