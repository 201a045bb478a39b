use Rattle.std.proofs.Common.{◌≡◌, ◌-◌}
use Rattle.isle_reading.specs.Reader.{run}
use Rattle.isle_reading.specs.Combinators.{words_from}
use Rattle.isle_reading.specs.Views.{left}
use Rattle.isle_grammar.specs.Grammar.{no_flags, with_flag}
use Rattle.isle_syntax.specs.ReadingViews.{flags_seen}
use Rattle.isle_syntax.proofs.flags.read_flags.Given as goal

-- the rest reads as all
abbrev pub invariant-loop : goal.invariant-loop
invariant-loop l = run (words_from (4 - l.counter) with_flag (flags_seen l.flags)) (left l.tokens) ≡ run (words_from 4 with_flag no_flags) (left l.fn.tokens)
