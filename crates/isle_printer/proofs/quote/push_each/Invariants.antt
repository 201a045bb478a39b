use Rattle.std.proofs.Common.{◌≡◌, ◌++◌, string_bytes}
use lib.Utf8.{encodes}
use Rattle.isle_printer.specs.Quote.{escaped}
use Rattle.isle_printer.proofs.quote.push_each.Given as goal

abbrev pub invariant-loop-c : goal.invariant-loop-c
invariant-loop-c l = string_bytes l.out ≡ string_bytes l.fn.out ++ escaped (encodes l.yielded)
