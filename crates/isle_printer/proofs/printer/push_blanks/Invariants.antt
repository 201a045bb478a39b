use Rattle.std.proofs.Common.{◌≡◌, string_bytes}
use Rattle.isle_printer.specs.Token.{scan}
use Rattle.isle_printer.proofs.printer.push_blanks.Given as goal

abbrev pub invariant-loop : goal.invariant-loop
invariant-loop l = scan (string_bytes l.text) ≡ scan (string_bytes l.fn.text)
