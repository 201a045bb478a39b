use Rattle.std.proofs.Common.{◌≡◌, string_bytes}
use Rattle.isle_meta.specs.Layout.{indentation}
use Rattle.isle_meta.proofs.layout.indent.Given as goal

abbrev pub invariant-loop : goal.invariant-loop
invariant-loop l = string_bytes l.line ≡ indentation l.counter
